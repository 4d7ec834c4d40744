use Rattle.name_tree.specs.Trees.{child, count}
use Rattle.name_tree.proofs.Steps.{as_before}
use Rattle.name_tree.proofs.tree.NameTree.enter_number.Goals as goal

pub returns-in-Some-clause-grows : goal.returns-in-Some-clause-grows
returns-in-Some-clause-grows c = as_before (child c.args.self.now) (count c.args.self.now)
