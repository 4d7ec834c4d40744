use Rattle.std.proofs.Common.{vec_len}
use Rattle.core_state.proofs.Placed.{Remains}
use Rattle.core_state.proofs.things.put_all.Given as goal

-- those that are left come too
abbrev pub invariant-loop-handle : goal.invariant-loop-handle
invariant-loop-handle l = Remains l.initial.left.items l.left.items l.place l.initial.pipes l.pipes

abbrev pub decreases-loop-handle : goal.decreases-loop-handle
decreases-loop-handle l = vec_len l.left
