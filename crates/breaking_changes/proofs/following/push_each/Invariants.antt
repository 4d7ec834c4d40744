use Rattle.std.proofs.Common.{◌≡◌, ◌++◌, drop}
use Rattle.std.specs.List.{flat_map}
use Rattle.compat_model.specs.Pairs.{follows}
use Rattle.breaking_changes.proofs.following.push_each.Given as goal

-- what is added and what is left are all
abbrev pub invariant-loop-pair : goal.invariant-loop-pair
invariant-loop-pair l =
    l.out.items ++ flat_map (follows l.old l.new) (drop l.pair-index l.pairs) ≡ l.initial.out.items ++ flat_map (follows l.old l.new) l.pairs
