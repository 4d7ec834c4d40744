use Rattle.std.proofs.Common.{◌≡◌, ◌++◌, drop}
use Rattle.std.specs.List.{flat_map}
use Rattle.compat_model.specs.Pairs.{method_pairs}
use Rattle.breaking_changes.proofs.interfaces.push_each.Given as goal

-- what is added and what is left are all
abbrev pub invariant-loop-ordinal : goal.invariant-loop-ordinal
invariant-loop-ordinal l =
    l.out.items ++ flat_map (method_pairs l.older l.newer) (drop l.ordinal-index l.ordinals)
    ≡ l.initial.out.items ++ flat_map (method_pairs l.older l.newer) l.ordinals
