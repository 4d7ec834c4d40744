use Rattle.std.proofs.Common.{◌≡◌, drop}
use Rattle.compat_model.specs.Changes.{method_gone}
use Rattle.compat_model.specs.Members.{first_found}
use Rattle.breaking_changes.proofs.interfaces.first_gone.Given as goal

-- the first of what is left is the first of all
abbrev pub invariant-loop-ordinal : goal.invariant-loop-ordinal
invariant-loop-ordinal l = first_found (method_gone l.newer) (drop l.ordinal-index l.ordinals) ≡ first_found (method_gone l.newer) l.ordinals
