use Rattle.core_state.proofs.Pausing.{stays_after}
use Rattle.event_takes.proofs.forgetting.forget_met.Goals as goal

pub returns-then-not-forget_one : goal.returns-then-not-forget_one
returns-then-not-forget_one c =
    stays_after c.args.pipes.now c.args.notices.now c.loop.notices c.forget_one.new.notices c.loop.invariant c.forget_one.ensures

pub loop-preserved : goal.loop-preserved
loop-preserved c =
    stays_after c.args.pipes.now c.args.notices.now c.loop.notices c.forget_one.new.notices c.loop.invariant c.forget_one.ensures
