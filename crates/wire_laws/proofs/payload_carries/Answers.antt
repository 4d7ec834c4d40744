use Rattle.std.specs.Prelude.{IsTrue}
use Rattle.wire_laws.proofs.CarriedWhole.{payload_carries}
use Rattle.wire_laws.proofs.payload_carries.Goals as goal

pub returns : goal.returns
returns c old new among = payload_carries old new (λ pair. IsTrue (among pair))
