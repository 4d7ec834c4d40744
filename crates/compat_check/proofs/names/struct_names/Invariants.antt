use Rattle.std.proofs.Common.{◌≡◌, ◌++◌, drop}
use Rattle.std.specs.BTreeSet.{contains}
use Rattle.std.specs.Ordering.{nat_cmp}
use Rattle.compat_model.specs.Verdicts.{struct_names}
use Rattle.compat_check.proofs.names.struct_names.Given as goal

-- what is made and what is left are all
abbrev pub invariant-loop-number : goal.invariant-loop-number
invariant-loop-number l =
    l.made.items ++ struct_names (contains nat_cmp l.marks) l.number (drop l.number l.fn.structs) ≡ struct_names (contains nat_cmp l.marks) 0 l.fn.structs
