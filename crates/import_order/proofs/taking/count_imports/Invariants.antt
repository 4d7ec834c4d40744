use Rattle.std.proofs.Common.{◌≡◌, ℕ, List, [], map, length, get_or, take}
use Rattle.std.specs.Prelude.{◌==◌, ◌&&◌, nat_lt}
use Rattle.import_order.specs.Imports.{has}
use Rattle.import_order.proofs.taking.count_imports.Given as goal

abbrev pub invariant-loop-file : goal.invariant-loop-file
invariant-loop-file l = record {
  counts : l.left.items ≡ map (λ (list : List ℕ). length list) (take l.file l.imports);
  free : (k : ℕ) → has l.free k ≡ (nat_lt k l.file && (length (get_or l.imports k []) == 0));
}
