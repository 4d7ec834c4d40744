use Rattle.std.proofs.Common.{◌≡◌, drop}
use Rattle.core_sending.specs.Carrying.{wrong_pipe}
use Rattle.core_sending.proofs.fitting.wrong_pipe.Given as goal

-- what is left decides
abbrev pub invariant-loop-pending : goal.invariant-loop-pending
invariant-loop-pending l = wrong_pipe l.endpoints l.end (drop l.pending-index l.pendings) ≡ wrong_pipe l.endpoints l.end l.pendings
