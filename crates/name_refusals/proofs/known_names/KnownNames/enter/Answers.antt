use Rattle.std.proofs.Common.{refl}
use Rattle.name_refusals.proofs.KnownTree.{entered}
use Rattle.name_refusals.proofs.known_names.KnownNames.enter.Goals as goal

pub returns-clause-entered : goal.returns-clause-entered
returns-clause-entered c = entered c.args.self.now _ refl refl refl c.requires.known c.in_ok-made.ensures.tree c.in_ok-made.ensures.grows
