use Rattle.std.proofs.Common.{◌≡◌, ◌-◌, length}
use Rattle.import_order.specs.Imports.{IsTakenInOrder}
use Rattle.import_order.proofs.Frees.{IsCounted}
use Rattle.import_order.proofs.taking.take_behind.Given as goal

abbrev pub invariant-loop-file : goal.invariant-loop-file
invariant-loop-file l = record {
  limit : l.taken.limit ≡ length l.imports;
  in_order : IsTakenInOrder l.imports l.taken.numbers;
  counted : IsCounted l.imports l.taken.numbers l.left.items l.free;
}

abbrev pub decreases-loop-file : goal.decreases-loop-file
decreases-loop-file l = length l.imports - length l.taken.numbers
