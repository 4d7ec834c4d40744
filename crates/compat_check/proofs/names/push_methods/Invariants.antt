use Rattle.std.proofs.Common.{◌≡◌, ◌++◌, drop}
use Rattle.std.specs.List.{flat_map}
use Rattle.compat_check.specs.steps.Names.{method_structs}
use Rattle.compat_check.proofs.names.push_methods.Given as goal

-- what is added and what is left are all
abbrev pub invariant-loop-method : goal.invariant-loop-method
invariant-loop-method l = l.out.items ++ flat_map method_structs (drop l.method-index l.methods) ≡ l.initial.out.items ++ flat_map method_structs l.methods
