use Rattle.std.proofs.Common.{sym}
use Rattle.module_resolver.proofs.index.enter_alone.Goals as goal

pub enter-requires-clause-there : goal.enter-requires-clause-there
enter-requires-clause-there c = c.requires.root

pub returns-clause-is : goal.returns-clause-is
returns-clause-is c = record { is = c.in_ok-node.ensures.is; dotted = sym c.dots_in-dots.ensures }
