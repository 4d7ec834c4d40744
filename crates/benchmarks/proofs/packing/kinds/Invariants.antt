use Rattle.std.proofs.Common.{◌≡◌, length}
use Rattle.benchmarks.proofs.packing.kinds.Given as goal

abbrev pub invariant-loop-place : goal.invariant-loop-place
invariant-loop-place l = length l.kinds.items ≡ l.place
