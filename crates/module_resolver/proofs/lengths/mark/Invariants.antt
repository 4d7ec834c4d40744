use Rattle.std.proofs.Common.{◌≡◌, ℕ, ◌+◌, ◌-◌, get_or, vec_len}
use Rattle.std.specs.Prelude.{false}
use Rattle.module_resolver.proofs.lengths.mark.Given as goal

abbrev pub invariant-loop-lengths : goal.invariant-loop-lengths
invariant-loop-lengths l = (k : ℕ) → get_or l.lengths.items k false ≡ get_or l.initial.lengths.items k false

abbrev pub decreases-loop-lengths : goal.decreases-loop-lengths
decreases-loop-lengths l = (l.len + 1) - vec_len l.lengths
