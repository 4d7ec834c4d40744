use Rattle.std.proofs.Common.{◌≡◌, ℕ, [], length, get_or}
use Rattle.import_order.proofs.taking.empty_lists.Given as goal

abbrev pub invariant-loop-number : goal.invariant-loop-number
invariant-loop-number l = record {
  long : length l.lists.items ≡ l._number;
  empty : (k : ℕ) → get_or l.lists.items k [] ≡ [];
}
