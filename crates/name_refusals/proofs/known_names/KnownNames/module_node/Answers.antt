use Rattle.name_refusals.proofs.KnownTree.{entered_none}
use Rattle.name_refusals.proofs.known_names.KnownNames.module_node.Goals as goal

pub returns-in-None-clause-entered : goal.returns-in-None-clause-entered
returns-in-None-clause-entered c = entered_none c.args.self.now c.requires
