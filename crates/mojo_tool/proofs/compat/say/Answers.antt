use Rattle.std.proofs.Common.{refl}
use Rattle.mojo_tool.proofs.compat.say.Goals as goal

pub returns-in-Ok-clause-text : goal.returns-in-Ok-clause-text
returns-in-Ok-clause-text c = (c.in-Compatible.stable, c.in-Compatible.is, c.in-Ok.ensures)

pub returns-in-Broken-clause-stop : goal.returns-in-Broken-clause-stop
returns-in-Broken-clause-stop c = (c.in-Broken.reason, c.in-Broken.is, refl)
