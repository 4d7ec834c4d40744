use Rattle.std.proofs.Common.{refl}
use Rattle.module_resolver.proofs.Held.{entered}
use Rattle.module_resolver.proofs.name_index.NameIndex.enter.Goals as goal

pub returns-clause-entered : goal.returns-clause-entered
returns-clause-entered c = entered c.args.self.now _ refl refl c.requires.sound c.in_ok-made.ensures.tree c.in_ok-made.ensures.grows
