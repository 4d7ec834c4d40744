use Rattle.std.proofs.Common.{List, take, sym, ◌∙◌, subst}
use Rattle.bind_model.specs.Machine.{Entry}
use Rattle.core_taking.specs.steps.Pending.{HavePlaces}
use Rattle.core_state.proofs.Entered.{longer_here}
use Rattle.core_taking.proofs.PendingMade.{more_placed}
use Rattle.event_takes.proofs.receiving.reserve_pending.Goals as goal

pub loop-entry-preserved : goal.loop-entry-preserved
loop-entry-preserved c = record {
  same = λ p. c.reserve_one.ensures.same p ∙ c.loop-entry.invariant.same p;
  places =
      subst (λ (es : List Entry). HavePlaces c.reserve_one.new.pendings c.args.end es)
      (sym (longer_here c.args.entries.now c.loop-entry.entry-index c.entry-item.result c.loop-entry-test.true c.entry-item.is))
      (more_placed c.args.end (take c.loop-entry.entry-index c.args.entries.now) c.entry-item.result c.loop-entry.pendings c.reserve_one.new.pendings
      c.loop-entry.invariant.places c.reserve_one.ensures.keeps c.in_ok-reserve_one.ensures.there);
}
