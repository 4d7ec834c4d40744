use Rattle.std.proofs.Common.{◌≡◌, ◌<◌, ℕ}
use Rattle.std.specs.Prelude.{false, not}
use Rattle.import_order.specs.Imports.{has}
use Rattle.import_order.proofs.circle.first_file_left.Given as goal

abbrev pub invariant-loop-file : goal.invariant-loop-file
invariant-loop-file l = (k : ℕ) → k < l.file → not (has l.taken.numbers k) ≡ false
