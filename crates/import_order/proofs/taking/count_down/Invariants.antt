use Rattle.std.proofs.Common.{◌≡◌, ◌+◌, ℕ, get_or, take}
use Rattle.std.specs.Prelude.{◌==◌, ◌&&◌, ◌||◌}
use Rattle.import_order.specs.Imports.{has}
use Rattle.import_order.specs.steps.Taking.{times}
use Rattle.import_order.proofs.taking.count_down.Given as goal

abbrev pub invariant-loop-file : goal.invariant-loop-file
invariant-loop-file l = record {
  counts : (k : ℕ) → get_or l.left k 0 + times k (take l.file-index l.importers) ≡ get_or l.initial.left k 0;
  free : (k : ℕ) → has l.free k ≡ (has l.initial.free k || ((get_or l.left k 0 == 0) && has (take l.file-index l.importers) k));
}
