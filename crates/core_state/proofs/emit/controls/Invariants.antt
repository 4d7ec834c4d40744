use Rattle.std.proofs.Common.{◌≡◌, ◌++◌, drop}
use Rattle.core_state.specs.Emitting.{controls_at}
use Rattle.core_state.proofs.emit.controls.Given as goal

-- what is behind is made, and the rest is still to be
abbrev pub invariant-loop-id : goal.invariant-loop-id
invariant-loop-id l = l.messages.items ++ controls_at l.endpoints l.end (drop l.id-index l.ids) ≡ controls_at l.endpoints l.end l.ids
