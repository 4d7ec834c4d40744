use Rattle.std.proofs.Common.{◌-◌, length}
use Rattle.mj_base.specs.declared.limits.TheConstants.{MAX_EVENTS}
use Rattle.script_run.specs.Draining.{HasDrained, past_in}
use Rattle.script_run.proofs.draining.take_all.Given as goal

abbrev pub invariant-loop-seq : goal.invariant-loop-seq
invariant-loop-seq l = HasDrained l.schema l.script (past_in l.fn.core) l.core l.rests

abbrev pub decreases-loop-seq : goal.decreases-loop-seq
decreases-loop-seq l = MAX_EVENTS - length l.core.events
