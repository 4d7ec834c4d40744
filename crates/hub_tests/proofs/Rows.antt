-- A row of a sequence may go to its thread.
use denote.RattleType.{RattleType}
use denote.Ref.{NamedLft}
use denote.Param.Send.{IsSend, IsSync, sendable}
use Rattle.std.proofs.Crossing as vecs
use Rattle.hub_tests.specs.contracts.pipes.Row as row
use Rattle.bind_model.proofs.Crossing.{reply_send, refused_send}
use Rattle.bind_hub.proofs.Crossing.{seat_send}

pub row_send : (ℓ : NamedLft) (R : RattleType) → IsSync R → IsSend (row.the_field ℓ R).row
row_send ℓ R y = search (seat_send, reply_send, refused_send, vecs.crosses, sendable) depth 60 fits 20000
