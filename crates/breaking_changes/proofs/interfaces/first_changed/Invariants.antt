use Rattle.std.proofs.Common.{◌≡◌, drop}
use Rattle.compat_model.specs.Changes.{response_changed}
use Rattle.compat_model.specs.Members.{first_found}
use Rattle.breaking_changes.proofs.interfaces.first_changed.Given as goal

-- the first of what is left is the first of all
abbrev pub invariant-loop-ordinal : goal.invariant-loop-ordinal
invariant-loop-ordinal l =
    first_found (response_changed l.older l.newer) (drop l.ordinal-index l.ordinals)
    ≡ first_found (response_changed l.older l.newer) l.ordinals
