-- What a call or an answer writes.
use Rattle.std.specs.Prelude.{ℕ, ℤ, ◌≡◌, ◌+◌, ◌==◌, Option, List, false, length, if◌then◌else◌}
use Rattle.mj_base.specs.declared.ids.EndId.{EndId}
use Rattle.wire_encoder.specs.declared.prepared.Prepared.{Prepared}
use Rattle.wire_model.specs.Message.{message}
use Rattle.wire_model.specs.Trees.{view}
use Rattle.bind_model.specs.declared.event.Event.{Event}
use Rattle.bind_model.specs.Replies.{drawn}
use Rattle.bind_model.specs.declared.asked.Outgoing.{Outgoing}
use Rattle.endpoint_router.specs.Rows.{Contents, next_number, row_at}
use Rattle.core_state.specs.Routers.{Routers, router_at}
use Rattle.endpoint_router.specs.Turns.{CanSend}
use Rattle.core_sending.specs.declared.call.Request.{Request}
use Rattle.core_sending.specs.declared.carried.CarriedNames.{CarriedNames}
use Rattle.core_sending.specs.declared.writing.Writes.{Writes}
use Rattle.bind_model.specs.declared.commands.Command.{Command}
use Rattle.bind_model.specs.declared.commands.Command.TheVariants.{Call}

-- the command that a request came with
abbrev pub command_of : Request → Command
command_of r = Call r.end r.id r.prepared r.carried.handles r.carried.pendings r.moment

-- the request id of a call: one more than how many were sent there with a response, or 0 where none is expected
abbrev pub request_id : List Event → EndId → ℕ → Prepared → ℕ
request_id past y id prepared = if prepared.flags == 0 then 0 else length (drawn past y id) + 1

-- as the router of the end has it
abbrev pub number_of : Routers → EndId → ℕ → Prepared → ℕ
number_of endpoints y id prepared = if prepared.flags == 0 then 0 else next_number (row_at (router_at endpoints y) id)

-- a request of this number may be sent from the endpoint of an id
abbrev pub MaySend : ℕ → Contents → ℕ → Type 0
MaySend request c id = (request == 0) ≡ false → CanSend c id

-- the bytes of a prepared message for the endpoint of an id
abbrev pub sealed_bytes : ℕ → ℕ → Option ℤ → List ℕ → Prepared → List ℕ
sealed_bytes id request moment ids prepared = message
    (record { interface = id; name = prepared.target.method; flags = prepared.flags; nonce = 0; request = request; moment = moment; ids = ids })
    prepared.payload.items

-- what goes out with these names and this moment
abbrev pub outgoing_named : Prepared → CarriedNames → Option ℤ → Outgoing
outgoing_named prepared names moment = record {
  target = prepared.target;
  parameters = view prepared.value;
  handles = names.things;
  pendings = names.pendings;
  moment = moment;
}

-- what goes out, the message, and the bytes twice more
pub record AreOf (prepared : Prepared) (names : CarriedNames) (moment : Option ℤ) (bytes : List ℕ) (writes : Writes) : Type 0 where
  pub outgoing : writes.outgoing ≡ outgoing_named prepared names moment
  pub message : writes.message ≡ record { bytes = bytes; handles = names.things; emitted = false }
  pub noted : writes.noted ≡ bytes
  pub told : writes.told ≡ bytes
