use Rattle.std.proofs.Common.{◌-◌, length}
use Rattle.mj_base.specs.declared.limits.TheConstants.{MAX_EVENTS}
use Rattle.event_tables.specs.AsCore.{past_by}
use Rattle.event_follow.specs.steps.Draining.{HasDrained}
use Rattle.event_follow.proofs.draining.drain.Given as goal

-- so far each take was that which was ready
abbrev pub invariant-loop-seq : goal.invariant-loop-seq
invariant-loop-seq l = HasDrained l.schema l.script (past_by l.fn.machine.tables) l.machine

abbrev pub decreases-loop-seq : goal.decreases-loop-seq
decreases-loop-seq l = MAX_EVENTS - length l.machine.tables.log.events
