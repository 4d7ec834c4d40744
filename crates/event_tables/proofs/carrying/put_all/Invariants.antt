use Rattle.std.proofs.Common.{take}
use Rattle.core_state.specs.Placing.{PutsAll}
use Rattle.event_tables.proofs.carrying.put_all.Given as goal

-- those so far have come
abbrev pub invariant-loop-thing : goal.invariant-loop-thing
invariant-loop-thing l = PutsAll (take l.thing-index l.things) l.place l.initial.pipes l.pipes
