use Rattle.std.proofs.Common.{◌≡◌, drop}
use Rattle.core_sending.specs.Carrying.{all_fit}
use Rattle.core_sending.proofs.fitting.all_fit.Given as goal

-- what is left decides
abbrev pub invariant-loop-at : goal.invariant-loop-at
invariant-loop-at l = all_fit l.endpoints (drop l.at l.pendings) (drop l.at l.wants) ≡ all_fit l.endpoints l.pendings l.wants
