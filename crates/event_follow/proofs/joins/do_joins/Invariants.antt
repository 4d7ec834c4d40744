use Rattle.std.proofs.Common.{length, take}
use Rattle.core_state.specs.Agreement.{schema_of}
use Rattle.event_tables.specs.AsCore.{state_of}
use Rattle.script_run.proofs.JoinDone.{joins_in}
use Rattle.event_follow.specs.steps.Joining.{HasJoined}
use Rattle.event_follow.proofs.joins.do_joins.Given as goal

-- the joins among so many lines are done
abbrev pub invariant-loop-line : goal.invariant-loop-line
invariant-loop-line l =
    HasJoined (schema_of (state_of l.fn.machine.tables)) l.script (length (joins_in (take l.line-index l.script.lines))) l.machine l.places
