use Rattle.std.proofs.Common.{ap, ◌∙◌, ℕ, inl, inr, ⊎_elim}
use Rattle.std.specs.Prelude.{map, string_bytes, Some}
use Rattle.mojo_tool.specs.Answers.{code_of}
use Rattle.mojo_tool.proofs.Reporting.{asks_at_once, none_wrong}
use Rattle.mojo_tool.proofs.top.mojo_alone.Goals as goal

pub returns-in-Ok-clause-wrong_use : goal.returns-in-Ok-clause-wrong_use
returns-in-Ok-clause-wrong_use g c none = ⊎_elim
    (λ e. inl (ap (λ (n : ℕ). Some n) (c.code.ensures ∙ ap code_of e)))
    (λ e. inr (ap (λ (n : ℕ). Some n) (c.code.ensures ∙ ap code_of e)))
    (c.in-Ok.ensures.wrong_use none)

pub returns-in-Ok-clause-answers : goal.returns-in-Ok-clause-answers
returns-in-Ok-clause-answers g c = (c.in-Ok.status, c.code.ensures, c.in-Ok.ensures.answers)

pub returns-in-Ok-clause-threads : goal.returns-in-Ok-clause-threads
returns-in-Ok-clause-threads g c asks = inr (ap (λ (n : ℕ). Some n) (c.code.ensures ∙ ap code_of (c.in-Ok.ensures.threads asks)))

pub returns-in-Err-clause-wrong_use : goal.returns-in-Err-clause-wrong_use
returns-in-Err-clause-wrong_use g c none = absurd (none_wrong _ _ c.in-Err.ensures.at_once none)

pub returns-in-Err-clause-none : goal.returns-in-Err-clause-none
returns-in-Err-clause-none g c =
    let same = c.in-Err.ensures.same in
    (asks_at_once (map string_bytes c.args.words.now) c.in-Err._run c.in-Err.ensures.at_once, same.0, same.1, same.2)
