use Rattle.std.proofs.Common.{◌≡◌, ◌<◌, ◌-◌, length, [], ◌∷◌, ◌++◌}
use Rattle.std.specs.Prelude.{false}
use Rattle.import_order.specs.Imports.{has, IsWalk}
use Rattle.import_order.proofs.circle.find_circle.Given as goal

abbrev pub invariant-loop-path : goal.invariant-loop-path
invariant-loop-path l = record {
  limit : l.path.limit ≡ length l.imports;
  within : l.here < length l.imports;
  left : has l.taken.numbers l.here ≡ false;
  walk : IsWalk l.imports l.taken.numbers (l.path.numbers ++ l.here ∷ []);
}

abbrev pub decreases-loop-path : goal.decreases-loop-path
decreases-loop-path l = length l.imports - length l.path.numbers
