use Rattle.std.proofs.Common.{refl}
use Rattle.message_pipe.proofs.Places.{loses_one}
use Rattle.message_pipe.proofs.slots.removed.Goals as goal

pub returns-in-Some-clause-value : goal.returns-in-Some-clause-value
returns-in-Some-clause-value c = rw c.in-Some.is c.try_remove.ensures.value

pub returns-in-Some-clause-loses : goal.returns-in-Some-clause-loses
returns-in-Some-clause-loses c = rw c.in-Some.is (loses_one c.args.messages.now c.try_remove.new.self c.in-Some.found c.try_remove.ensures.updates)

pub returns-in-None-clause-value : goal.returns-in-None-clause-value
returns-in-None-clause-value c = rw c.in-None.is refl

pub returns-in-None-clause-loses : goal.returns-in-None-clause-loses
returns-in-None-clause-loses c = rw c.in-None.is (λ a. refl)
