use Rattle.script_run.proofs.JoinDone.{JoinedUpTo}
use Rattle.script_run.proofs.joins.do_joins.Given as goal

-- the joins among so many lines are done
abbrev pub invariant-loop-line : goal.invariant-loop-line
invariant-loop-line l = JoinedUpTo l.lines l.line-index l.fn.core l.fn.rests l.fn.rooms l.core l.rests l.rooms
