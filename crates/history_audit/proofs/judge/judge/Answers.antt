use Rattle.std.proofs.Common.{List, subst, sym, ◌∙◌}
use Rattle.bind_model.specs.declared.event.Event.{Event}
use Rattle.history_audit.specs.steps.Said.{SaysFirst}
use Rattle.history_audit.proofs.Compared.{ok_weaker}
use Rattle.history_audit.proofs.Verdicts.{compares_at, short_early, short_late, whole_at, wrong_at}
use Rattle.history_audit.proofs.judge.judge.Goals as goal

pub returns-then-said-count-clause-audits : goal.returns-then-said-count-clause-audits
returns-then-said-count-clause-audits c = λ script printed audited.
    let says = subst (λ (es : List Event). SaysFirst c.args.schema.now es c.args.bytes.now c.in-Ok.said) c.as_slice.ensures c.in-Ok.ensures in
    wrong_at c.args.schema.now script printed c.args.bytes.now c.args.count c.args.followed.now audited c.in-Ok.said says c.if-said-count.true

pub returns-then-not-whole-clause-audits : goal.returns-then-not-whole-clause-audits
returns-then-not-whole-clause-audits c = λ script printed audited.
    let says = subst (λ (es : List Event). SaysFirst c.args.schema.now es c.args.bytes.now c.in-Ok.said) c.as_slice.ensures c.in-Ok.ensures in
    short_early c.args.schema.now script printed c.args.bytes.now c.args.count c.args.followed.now audited c.in-Ok.said says c.if-said-count.false
    c.if-not-whole.true

pub returns-then-size-count-clause-audits : goal.returns-then-size-count-clause-audits
returns-then-size-count-clause-audits c = λ script printed audited.
    let says = subst (λ (es : List Event). SaysFirst c.args.schema.now es c.args.bytes.now c.in-Ok.said) c.as_slice.ensures c.in-Ok.ensures in
    short_late c.args.schema.now script printed c.args.bytes.now c.args.count c.args.followed.now audited c.in-Ok.said says c.if-said-count.false
    (λ same. c.if-size-count.true (c.len-size.ensures ∙ same))

pub returns-clause-audits : goal.returns-clause-audits
returns-clause-audits c =
    let says = subst (λ (es : List Event). SaysFirst c.args.schema.now es c.args.bytes.now c.in-Ok.said) c.as_slice.ensures c.in-Ok.ensures in
    ok_weaker c.compare.result _ _
    (λ audit compares. λ script printed audited.
    let at = compares_at c.args.schema.now script printed c.args.bytes.now c.args.count c.args.followed.now audited c.in-Ok.said says c.if-said-count.false
    audit c.if-not-whole.false compares in
    whole_at c.args.schema.now script printed c.args.bytes.now c.args.count c.args.followed.now audited c.in-Ok.said says c.if-said-count.false
    c.if-not-whole.false (sym c.len-size.ensures ∙ c.if-size-count.false) audit at)
    c.compare.ensures.compares
