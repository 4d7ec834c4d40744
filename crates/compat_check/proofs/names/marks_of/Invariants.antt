use Rattle.std.proofs.Common.{◌≡◌, ℕ, take}
use Rattle.std.specs.BTreeSet.{contains}
use Rattle.std.specs.Ordering.{nat_cmp}
use Rattle.compat_check.specs.steps.Names.{is_among}
use Rattle.compat_check.proofs.names.marks_of.Given as goal

-- what was passed is marked
abbrev pub invariant-loop-number : goal.invariant-loop-number
invariant-loop-number l = (q : ℕ) → contains nat_cmp l.marks q ≡ is_among (take l.number-index l.numbers) q
