use Rattle.std.proofs.Common.{◌≡◌, ◌++◌, drop}
use Rattle.std.specs.List.{flat_map}
use Rattle.compat_check.specs.steps.Roots.{root_if_stable}
use Rattle.compat_check.proofs.roots.push_each.Given as goal

-- what is added and what is left are all
abbrev pub invariant-loop-definition : goal.invariant-loop-definition
invariant-loop-definition l =
    l.out.items ++ flat_map (root_if_stable l.old l.new.schema.now) (drop l.definition-index l.definitions)
    ≡ l.initial.out.items ++ flat_map (root_if_stable l.old l.new.schema.now) l.definitions
