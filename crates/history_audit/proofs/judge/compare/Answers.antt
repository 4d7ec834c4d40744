use Rattle.std.proofs.Common.{◌≡◌, ◌∙◌, subst}
use Rattle.std.specs.Prelude.{List, ℕ}
use Rattle.printed_histories.specs.Runs.{run_text}
use Rattle.history_audit.specs.Audited.{first_differing}
use Rattle.history_audit.proofs.Compared.{text_is}
use Rattle.history_audit.proofs.judge.compare.Goals as goal

pub returns-in-None-clause-compares : goal.returns-in-None-clause-compares
returns-in-None-clause-compares c = λ script left notes.
    let ran = c.args.ran.now in
    let whole = c.in-Ok.ensures ∙ text_is c.args.schema.now script.seqs ran.history.events ran.notes ran.left left notes in
    (c.in-None.ensures.same ∙ (c.as_slice.ensures.value ∙ whole), c.len.ensures)

pub returns-clause-compares : goal.returns-clause-compares
returns-clause-compares c = λ script left notes.
    let ran = c.args.ran.now in
    let whole : c.as_slice.result.now ≡ run_text c.args.schema.now script.seqs ran.history.events =
    c.as_slice.ensures.value ∙ (c.in-Ok.ensures ∙ text_is c.args.schema.now script.seqs ran.history.events ran.notes ran.left left notes) in
    subst (λ (text : List ℕ). (c.args.bytes.now ≡ text → ⊥) × (c.in-Some.line ≡ first_differing 1 c.args.bytes.now text)) whole c.in-Some.ensures.differs
