use Rattle.name_tree.specs.Trees.{child, count}
use Rattle.name_tree.proofs.Steps.{as_before}
use Rattle.call_script.proofs.indexed_schema.enter_module.Goals as goal

pub returns-in-None-clause-grows : goal.returns-in-None-clause-grows
returns-in-None-clause-grows c = as_before (child c.args.tree.now) (count c.args.tree.now)
