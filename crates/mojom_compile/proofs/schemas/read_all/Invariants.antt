use Rattle.std.proofs.Common.{◌≡◌, take, length}
use Rattle.mojom_compile.specs.Schemas.{AreTreesOf}
use Rattle.mojom_compile.proofs.schemas.read_all.Given as goal

abbrev pub invariant-loop-number : goal.invariant-loop-number
invariant-loop-number l = record {
  trees : AreTreesOf (take l.number l.sources) l.files.items;
  count : length l.files.items ≡ l.number;
}
