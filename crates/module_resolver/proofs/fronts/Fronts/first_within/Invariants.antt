use Rattle.std.proofs.Common.{◌-◌, ◌<◌, ◌≤◌, ℕ, length, get_or}
use Rattle.module_resolver.proofs.fronts.Fronts.first_within.Given as goal

abbrev pub invariant-loop-low : goal.invariant-loop-low
invariant-loop-low l = record {
  from : l.number ≤ l.low;
  ordered : l.low ≤ l.high;
  bound : l.high ≤ length l.self-inside.dots.items;
  before : (k : ℕ) → l.number ≤ k → k < l.low → l.limit < get_or l.self-inside.dots.items k 0;
}

abbrev pub decreases-loop-low : goal.decreases-loop-low
decreases-loop-low l = l.high - l.low
