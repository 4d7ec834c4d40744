use Rattle.mojom_compile.proofs.Readings.{one_tree}
use Rattle.mojom_compile.proofs.compiler.one_tree.Goals as goal

pub returns : goal.returns
returns c = one_tree
