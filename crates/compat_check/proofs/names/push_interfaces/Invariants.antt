use Rattle.std.proofs.Common.{◌≡◌, ◌++◌, drop}
use Rattle.std.specs.List.{flat_map}
use Rattle.compat_check.specs.steps.Names.{structs_in}
use Rattle.compat_check.proofs.names.push_interfaces.Given as goal

-- what is added and what is left are all
abbrev pub invariant-loop-row : goal.invariant-loop-row
invariant-loop-row l = l.out.items ++ flat_map structs_in (drop l.row-index l.interfaces) ≡ l.initial.out.items ++ flat_map structs_in l.interfaces
