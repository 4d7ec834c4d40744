use Rattle.std.proofs.Common.{refl}
use Rattle.message_pipe.proofs.slots.look.Goals as goal

pub returns-in-Some : goal.returns-in-Some
returns-in-Some c = rw c.in-Some.is c.get.ensures

pub returns-in-None : goal.returns-in-None
returns-in-None c = rw c.in-None.is refl
