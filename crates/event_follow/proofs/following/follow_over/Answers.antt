use Rattle.std.proofs.Common.{◌≡◌, ◌∙◌, ℕ, Bool, List, ap, subst, sym}
use Rattle.std.specs.Prelude.{IfOk, reverse}
use Rattle.std.specs.Arc.{arc_value}
use Rattle.bind_model.specs.Left.{left}
use Rattle.bind_model.specs.declared.event.Event.{Event}
use Rattle.callback_laws.specs.Callbacks.{callbacks}
use Rattle.event_tables.specs.AsCore.{past_by}
use Rattle.script_run.specs.Followed.{Follows}
use Rattle.event_follow.proofs.Running.{if_both}
use Rattle.event_follow.proofs.following.follow_over.Goals as goal

pub follow_all-requires-clause-is : goal.follow_all-requires-clause-is
follow_all-requires-clause-is c = record {
  stands = c.new-machine.ensures.stands;
  schema = ap arc_value c.new-machine.ensures.schema ∙ c.requires.same;
  seqs = c.new-machine.ensures.seqs;
}

pub drain_whole-requires-clause-traced : goal.drain_whole-requires-clause-traced
drain_whole-requires-clause-traced c = (c.args.events.now, c.in_ok-whole.ensures)

pub leave-requires : goal.leave-requires
leave-requires c = (c.in_ok-drain_whole.ensures c.args.events.now c.in_ok-whole.ensures).is.stands

pub returns-clause-follows : goal.returns-clause-follows
returns-clause-follows c =
    let schema = c.args.schema.now in
    let script = c.args.script.now in
    let events = c.args.events.now in
    let ended = c.in_ok-drain_whole.ensures events c.in_ok-whole.ensures in
    if_both c.leave.result _ _ _ c.leave.ensures.events c.leave.ensures.whole
    (λ followed is whole.
    subst (λ (b : Bool). Follows schema script events followed.ran.history.events b) (sym whole)
    (subst (λ (es : List Event). Follows schema script events es c.in_ok-whole.whole) (sym is) ended.follows))

pub returns-clause-left : goal.returns-clause-left
returns-clause-left c =
    let machine = c.drain_whole.new.machine in
    let ended = c.in_ok-drain_whole.ensures c.args.events.now c.in_ok-whole.ensures in
    if_both c.leave.result _ _ _ c.leave.ensures.events c.leave.ensures.left
    (λ followed is things.
    things
    ∙ (ap (λ (n : ℕ). left n (past_by machine.tables)) ended.is.seqs
    ∙ ap (λ (es : List Event). left c.args.script.now.seqs (reverse es)) (sym is)))

pub returns-clause-notes : goal.returns-clause-notes
returns-clause-notes c =
    let machine = c.drain_whole.new.machine in
    let ended = c.in_ok-drain_whole.ensures c.args.events.now c.in_ok-whole.ensures in
    let both : IfOk c.leave.result (λ f. (f.ran.history.events ≡ machine.tables.log.events) × (f.whole ≡ c.in_ok-whole.whole)) =
    if_both c.leave.result _ _ _ c.leave.ensures.events c.leave.ensures.whole (λ followed is whole. (is, whole)) in
    if_both c.leave.result _ _ _ both c.leave.ensures.notes
    (λ followed facts notes. λ whole.
    notes (sym facts.1 ∙ whole)
    ∙ (ap (λ (n : ℕ). callbacks n machine.tables.log.events) ended.is.seqs
    ∙ ap (λ (es : List Event). callbacks c.args.script.now.seqs es) (sym facts.0)))
