use Rattle.std.proofs.Common.{ap, ◌∙◌, inl, inr, ⊎_elim}
use Rattle.std.specs.Prelude.{map, string_bytes}
use Rattle.mojo_tool.specs.Answers.{code_of}
use Rattle.mojo_tool.proofs.Reporting.{from_same, none_wrong}
use Rattle.mojo_tool.proofs.top.mojo_main.Goals as goal

pub returns-in-Ok-clause-wrong_use : goal.returns-in-Ok-clause-wrong_use
returns-in-Ok-clause-wrong_use g c none = ⊎_elim
    (λ e. inl (c.code.ensures ∙ ap code_of e))
    (λ e. inr (c.code.ensures ∙ ap code_of e))
    (c.in-Ok.ensures.wrong_use none)

pub returns-in-Ok-clause-answers : goal.returns-in-Ok-clause-answers
returns-in-Ok-clause-answers g c = (c.in-Ok.status, c.code.ensures, c.in-Ok.ensures.answers)

pub returns-in-Err-clause-wrong_use : goal.returns-in-Err-clause-wrong_use
returns-in-Err-clause-wrong_use g c none = absurd (none_wrong _ _ c.in-Err.ensures.at_once none)

pub returns-in-Err-clause-answers : goal.returns-in-Err-clause-answers
returns-in-Err-clause-answers g c =
    let words = map string_bytes c.args.words.now in
    let same = c.in-Err.ensures.same in (
      c.on_threads.result,
      c.code-in-Err.ensures,
      from_same words _ _ _ _ _ _ _ _ _ c.on_threads.result same.0 same.1 same.2 (c.on_threads.ensures words c.in-Err.ensures.at_once),
    )
