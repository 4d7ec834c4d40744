use Rattle.std.proofs.Common.{◌∙◌, List, sym, subst}
use Rattle.std.proofs.lemmas.Result.{IfOk-weaker}
use Rattle.bind_model.specs.Seen.{own_of}
use Rattle.bind_model.specs.declared.event.Event.{Event}
use Rattle.event_notes.specs.steps.Got.{Knows}
use Rattle.event_notes.proofs.Noting.{back_other, back_own, own_here, own_other}
use Rattle.event_notes.proofs.notes.note_own.Goals as goal

pub returns-then-is_own-clause-back : goal.returns-then-is_own-clause-back
returns-then-is_own-clause-back c =
    let own = sym c.is_own.ensures ∙ c.if-is_own.true in
    IfOk-weaker c.note_event.result _ _
    (λ done noted before later knows back.
    back_own c.args.seq c.args.event.now later before c.args.notes.now.items back own c.note_event.new.notes.items
    (noted (own_of c.args.seq later) knows))
    c.note_event.ensures.notes

pub returns-then-is_own-clause-knows : goal.returns-then-is_own-clause-knows
returns-then-is_own-clause-knows c =
    let own = sym c.is_own.ensures ∙ c.if-is_own.true in
    IfOk-weaker c.note_event.result _ _
    (λ done more later knows.
    subst (λ (es : List Event). Knows c.note_event.new.answered es) (sym (own_here c.args.seq c.args.event.now later own))
    (more (own_of c.args.seq later) knows))
    c.note_event.ensures.knows

pub returns-clause-back : goal.returns-clause-back
returns-clause-back c before later knows back =
    back_other c.args.seq c.args.event.now later before c.args.notes.now.items back (sym c.is_own.ensures ∙ c.if-is_own.false)

pub returns-clause-knows : goal.returns-clause-knows
returns-clause-knows c later knows =
    subst (λ (es : List Event). Knows c.args.answered.now es)
    (sym (own_other c.args.seq c.args.event.now later (sym c.is_own.ensures ∙ c.if-is_own.false))) knows
