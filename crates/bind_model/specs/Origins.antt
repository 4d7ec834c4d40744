-- Who wrote each message.
use Rattle.std.specs.Prelude.{ℕ, Some, ◌≡◌, ◌==◌, ◌&&◌, ◌||◌, ◌++◌, not, true, false, List, [], ◌∷◌, map, filter, if◌then◌else◌}
use Rattle.mj_base.specs.declared.ids.EndId.{EndId}
use Rattle.handle_table.specs.declared.thing.Thing.{Thing}
use Rattle.message_pipe.specs.declared.message.Message.{Message}
use Rattle.bind_model.specs.declared.endpoint.ResponderId.{ResponderId}
use Rattle.bind_model.specs.declared.asked.Outgoing.{Outgoing}
use Rattle.bind_model.specs.declared.asked.Closing.TheVariants as closings
use Rattle.bind_model.specs.declared.asked.Asked.{Asked}
use Rattle.bind_model.specs.declared.asked.Asked.TheVariants.{Call, Answer, Raw, Take, Close, Notify}
use Rattle.bind_model.specs.declared.told.Told.{Told}
use Rattle.bind_model.specs.declared.told.Told.TheVariants.{Sent, Wrote, Taken, Dropped, Control as Heard, Closed, Notified as Informed}
use Rattle.control_bytes.specs.declared.control.Control.{Control}
use Rattle.control_bytes.specs.declared.control.Control.TheVariants as controls
use Rattle.bind_model.specs.declared.told.Noted.{Noted}
use Rattle.bind_model.specs.declared.told.Noted.TheVariants as noted
use Rattle.bind_model.specs.declared.event.Event.{Event}
use Rattle.handle_table.specs.Things.{same_end}
use Rattle.bind_model.specs.Wire.{Wire, Head}
use Rattle.bind_model.specs.Machine.{peer, is_gone, is_local, is_peer_closed, control_of, Endpoints, written, endpoint_at, enters, closed_ids}
use Rattle.bind_model.specs.Replies.{ids_of}

-- a call or an answer with its head, raw bytes, a notice of an end, or the machine itself
pub data Origin : Type 0 where
  OfCall : (y : EndId) → (outgoing : Outgoing) → (head : Head) → Origin
  OfAnswer : (r : ResponderId) → (outgoing : Outgoing) → (head : Head) → Origin
  OfRaw : (bytes : List ℕ) → (handles : List Thing) → Origin
  OfNotice : (y : EndId) → (control : Control) → Origin
  OfMachine : (control : Control) → Origin

-- the message that it wrote
abbrev pub message_of : Wire → Origin → Message
message_of wire (OfCall y s head) = record { bytes = wire.sealed s.target s.parameters head; handles = s.handles; emitted = false }
message_of wire (OfAnswer r s head) = record { bytes = wire.sealed s.target s.parameters head; handles = s.handles; emitted = false }
message_of wire (OfRaw bytes handles) = record { bytes = bytes; handles = handles; emitted = false }
message_of wire (OfNotice y control) = record { bytes = wire.control control; handles = []; emitted = false }
message_of wire (OfMachine control) = record { bytes = wire.control control; handles = []; emitted = true }

-- the writer at y of a message, where x is at the other side
abbrev pub from_peer : List Event → EndId → Origin → EndId → List Origin
from_peer past y origin x = if same_end (peer past y) x then origin ∷ [] else []

-- the machine as the writer of the controls of these ids, as it emits them
abbrev pub from_machine : List Event → EndId → Endpoints → (ℕ → Control) → List ℕ → EndId → List Origin
from_machine past y endpoints control ids x =
    if same_end (peer past y) x && not (is_gone past x)
    then map (λ id. OfMachine (control id)) (filter (λ id. not (is_peer_closed (endpoints id))) ids)
    else []

-- the version that a query is told
abbrev pub from_query : List Event → EndId → Endpoints → Noted → EndId → List Origin
from_query past y endpoints (noted.Queried id (Some v)) x = from_machine past y endpoints (λ n. controls.Version n v) (id ∷ []) x
from_query past y endpoints c x = []

module _ (wire : Wire) (past : List Event) where
  -- the ids that a take at y closes
  abbrev closing : EndId → Told → List ℕ
  closing y told = closed_ids (enters wire past y (written wire past y) (endpoint_at wire past y) told)

  -- who writes with an event for reading at x
  abbrev pub writers : Told → Asked → EndId → List Origin
  writers (Sent request bytes) (Call y id o) x =
      from_peer past y (OfCall y o (record { id = id; request = request; ids = ids_of o.pendings; moment = o.moment })) x
  writers (Sent request bytes) (Answer r o) x =
      from_peer past r.end (OfAnswer r o (record { id = r.id; request = request; ids = ids_of o.pendings; moment = o.moment })) x
  writers (Wrote z) (Raw y bytes handles) x = from_peer past z (OfRaw bytes handles) x
  writers (Taken g) (Take y) x = from_machine past y (endpoint_at wire past y) controls.Closed (closing y (Taken g)) x
  writers (Dropped id gone) (Take y) x = from_machine past y (endpoint_at wire past y) controls.Closed (closing y (Dropped id gone)) x
  writers (Heard c) (Take y) x = from_query past y (endpoint_at wire past y) c x
  writers (Informed n) (Notify y notice) x = from_peer past y (OfNotice y (control_of notice n)) x
  writers (Closed gone) (Close (closings.Endpoint y id)) x = if id == 0 then [] else from_machine past y (endpoint_at wire past y) controls.Closed (id ∷ []) x
  writers (Closed gone) (Close (closings.Pending p)) x =
      if is_gone past p.end || is_local past p then [] else from_machine past p.end (endpoint_at wire past p.end) controls.Closed (p.id ∷ []) x
  writers told asked x = []

-- who wrote what is written for reading at x, in order
abbrev pub origins : Wire → List Event → EndId → List Origin
origins wire [] x = []
origins wire (event ∷ past) x = origins wire past x ++ writers wire past event.told event.asked x

-- each message is the one that its writer says: message k of an end is that of writer k
abbrev pub HaveWriters : Wire → List Event → Type 0
HaveWriters wire past = (x : EndId) → written wire past x ≡ map (message_of wire) (origins wire past x)
