use Rattle.std.proofs.Common.{◌≡◌, ◌++◌, drop}
use Rattle.core_state.specs.steps.Spends.{endpoint_names}
use Rattle.core_sending.proofs.carried.endpoint_names.Given as goal

-- the names so far, and those of what is left
abbrev pub invariant-loop-pending : goal.invariant-loop-pending
invariant-loop-pending l = l.names.items ++ endpoint_names (drop l.pending-index l.pendings) ≡ endpoint_names l.pendings
