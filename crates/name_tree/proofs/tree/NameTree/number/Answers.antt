use Rattle.std.proofs.Common.{refl}
use Rattle.name_tree.proofs.tree.NameTree.number.Goals as goal

pub returns-in-Some-clause-numbers : goal.returns-in-Some-clause-numbers
returns-in-Some-clause-numbers c = record { names = c.requires; same = λ node part. refl; nodes = refl }
