use Rattle.std.proofs.Common.{◌≡◌, ℕ, [], length, get_or, take}
use Rattle.import_order.specs.steps.Taking.{times}
use Rattle.import_order.proofs.taking.all_importers.Given as goal

abbrev pub invariant-loop-file : goal.invariant-loop-file
invariant-loop-file l = record {
  long : length l.importers.items ≡ length l.imports;
  counts : (one other : ℕ) → times one (get_or l.importers.items other []) ≡ times other (get_or (take l.file l.imports) one []);
}
