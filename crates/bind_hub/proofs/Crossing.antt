-- What of a core and of its hub may go to another thread, and what threads may share.
use denote.RattleType.{RattleType}
use denote.Ref.{NamedLft}
use denote.Param.Send.{IsSend, IsSync, sendable}
use Rattle.std.proofs.Crossing as vecs
use Rattle.message_pipe.proofs.pipes.Pipes.TheSendSync as pipes
use Rattle.core_state.proofs.tables.Tables.TheSendSync as tables
use Rattle.core_state.proofs.routers.Routers.TheSendSync as routers
use Rattle.core_state.proofs.state.Rights.TheSendSync as rights
use Rattle.core_state.specs.contracts.state.State as state
use Rattle.bind_core.proofs.end_set.EndSet.TheSendSync as end_set
use Rattle.bind_core.proofs.waiting.Waiting.TheSendSync as waiting
use Rattle.bind_core.specs.contracts.machine.Core as core
use Rattle.bind_hub.specs.contracts.kept.Kept as kept
use Rattle.bind_hub.specs.contracts.shared.Hub as hub
use Rattle.bind_hub.specs.contracts.seat.Seat as seat
use Rattle.turn_lock.proofs.pass.Pass.TheSendSync as pass
use Rattle.turn_lock.proofs.pass.Turn.TheSendSync as turn
use Rattle.mj_schema.proofs.Crossing.{schema_send, schema_sync}
use Rattle.bind_model.proofs.Crossing.{history_send}

-- all that a core keeps
state_send : IsSend state.the_field.row
state_send = search (
  schema_send,
  schema_sync,
  history_send,
  pipes.the_send,
  routers.the_send,
  tables.the_field_send,
  rights.the_field_send,
  vecs.crosses,
  sendable,
) depth 60 fits 20000

-- the core itself
core_send : IsSend core.the_field.row
core_send = search (state_send, end_set.the_send, waiting.the_send, sendable) depth 20

pub kept_send : IsSend kept.the_field.row
kept_send = search (core_send, sendable) depth 20

pub hub_sync : IsSync hub.the_field.row
hub_sync = search (turn.the_field_sync, kept_send, sendable) depth 20

-- a seat goes to the thread of its sequence
pub seat_send : (ℓ : NamedLft) (R : RattleType) → IsSync R → IsSend (seat.the_field ℓ R).row
seat_send ℓ R y = search (pass.the_field_send, hub_sync, kept_send, sendable) depth 20

pub ruleset crosses = (pass.the_send, hub_sync, kept_send, seat_send)
