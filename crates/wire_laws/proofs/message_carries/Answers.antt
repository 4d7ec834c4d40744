use Rattle.std.specs.Prelude.{IsTrue}
use Rattle.wire_laws.proofs.Whole.{message_carries}
use Rattle.wire_laws.proofs.message_carries.Goals as goal

pub returns : goal.returns
returns c old new among = message_carries old new (λ pair. IsTrue (among pair))
