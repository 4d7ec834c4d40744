use Rattle.script_run.proofs.Joining.{KnowBelow}
use Rattle.script_run.proofs.joins.know.Given as goal

-- so many know it
abbrev pub invariant-loop-room : goal.invariant-loop-room
invariant-loop-room l = KnowBelow l.name l.thing l.room-index l.fn.rooms l.rooms
