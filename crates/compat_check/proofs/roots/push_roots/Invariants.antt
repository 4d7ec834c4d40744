use Rattle.std.proofs.Common.{◌≡◌, ◌++◌, drop}
use Rattle.std.specs.List.{flat_map}
use Rattle.compat_model.specs.Verdicts.{root_pairs}
use Rattle.compat_check.proofs.roots.push_roots.Given as goal

-- what is added and what is left are all
abbrev pub invariant-loop-root : goal.invariant-loop-root
invariant-loop-root l = l.out.items ++ flat_map root_pairs (drop l.root-index l.roots) ≡ l.initial.out.items ++ flat_map root_pairs l.roots
