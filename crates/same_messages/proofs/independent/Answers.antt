use Rattle.same_messages.proofs.SameMessages.{independent}
use Rattle.same_messages.proofs.independent.Goals as goal

pub returns : goal.returns
returns c = independent
