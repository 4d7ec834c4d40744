use Rattle.core_state.specs.Agreement.{with_notices}
use Rattle.core_state.proofs.Pausing.{still_holds}
use Rattle.bind_core.proofs.Covering.{same_stands, same_watched, stands_after}
use Rattle.bind_core.proofs.machine.Core.step.Goals as goal

pub step-outcome-requires-clause-holds : goal.step-outcome-requires-clause-holds
step-outcome-requires-clause-holds c = still_holds c.self.inside.state c.forget_all.new.notices c.self.invariant.holds c.forget_all.ensures

pub invariant_of-self-2 : goal.invariant_of-self-2
invariant_of-self-2 c =
    stands_after (with_notices c.self.inside.state c.forget_all.new.notices) c.step-outcome.new.state c.args.seq c.args.command
    c.step-outcome.result c.watch.new.watched c.unwatch.new.watched c.watch.new.waiting
    (same_stands c.self.inside.state c.watch.new.watched c.watch.new.waiting c.forget_all.new.notices c.watch.ensures.stands c.forget_all.ensures)
    (same_watched c.self.inside.state c.args.command c.watch.new.watched c.watch.new.waiting c.forget_all.new.notices c.in-Ok.ensures.watched)
    c.step-outcome.ensures.done c.step-outcome.ensures.undone c.unwatch.ensures
