-- What is found at the front of an end's mail.
use Rattle.std.specs.Prelude.{ℕ, ◌≡◌, ◌*◌, ◌&&◌, ◌||◌, not, Bool, true, false, List, [], length, map, filter, Option, Some, None, Ok}
use Rattle.mj_base.specs.declared.header.Header.{Header as Read}
use Rattle.mj_base.specs.declared.ids.EndId.{EndId}
use Rattle.message_pipe.specs.Mail.{front_of}
use Rattle.message_pipe.specs.declared.message.Message.{Message}
use Rattle.handle_table.specs.declared.thing.Thing.{Thing}
use Rattle.bind_model.specs.declared.endpoint.Endpoint.{Endpoint}
use Rattle.bind_model.specs.declared.endpoint.State.{State}
use Rattle.bind_model.specs.declared.endpoint.State.TheVariants as states
use Rattle.bind_model.specs.declared.event.Event.{Event}
use Rattle.bind_model.specs.declared.told.Noted.{Noted}
use Rattle.bind_model.specs.declared.told.Noted.TheVariants as noted
use Rattle.bind_model.specs.declared.told.Told.{Told}
use Rattle.bind_model.specs.declared.told.Told.TheVariants as tells
use Rattle.wire_model.specs.Message.{ids_read}
use Rattle.bind_model.specs.Wire.{Content, Header, Wire}
use Rattle.bind_model.specs.Machine.{Entry, content_at, endpoint_at, first_strange, goes_behind, ids_in, unread}
use Rattle.bind_model.specs.Replies.{bad, is_asked, is_response, pendings_at}
use Rattle.wire_model.specs.declared.target.MessageSide.{MessageSide}
use Rattle.core_taking.specs.declared.admit.Admitted.{Admitted}
use Rattle.core_taking.specs.declared.reading.Arrived.{Arrived}
use Rattle.core_taking.specs.declared.reading.Found.{Found}
use Rattle.core_taking.specs.Admits.{Admits}
use Rattle.core_taking.specs.declared.reading.Found.TheVariants.{Nothing, Bad, Control, Dropped, Value}

-- the oldest unread message at an end
abbrev pub front_at : Wire → List Event → EndId → Option Message
front_at wire past y = front_of (unread wire past y)

-- the things of its handles
abbrev pub things_in : Option Message → List Thing
things_in None = []
things_in (Some m) = m.handles

-- the ids that it carries
abbrev pub carried_ids : Wire → Option Message → List ℕ
carried_ids wire None = []
carried_ids wire (Some m) = ids_in wire m

-- the message is dropped: its handles go, and its ids enter as closed unless they are strange
pub record IsDropped (wire : Wire) (past : List Event) (y : EndId) (id : ℕ) (a : Admitted) (told : Told) : Type 0 where
  pub is : told ≡ tells.Dropped id (goes_behind wire past y (things_in (front_at wire past y)))
  pub admits : Admits (endpoint_at wire past y) [] (carried_ids wire (front_at wire past y)) a

-- whether an endpoint waits to be bound
abbrev pub is_pending_state : State → Bool
is_pending_state states.Pending = true
is_pending_state (states.Bound t) = false
is_pending_state states.Closed = false

-- the same of an endpoint
abbrev pub is_pending : Endpoint → Bool
is_pending e = is_pending_state e.state

-- the ids that enter as pending, in order
abbrev pub pending_ids : List Entry → List ℕ
pending_ids entries = map (λ (e : Entry). e.id) (filter (λ (e : Entry). is_pending e.endpoint) entries)

-- the value is got with the handles and the ids that it names; the other handles go, and the other ids enter as closed
pub record IsGot (wire : Wire) (past : List Event) (y : EndId) (a : Arrived) (told : Told) : Type 0 where
  pub m : Message
  pub h : Header
  pub c : Content
  pub front : front_at wire past y ≡ Some m
  pub reads : wire.header m.bytes ≡ Ok h
  pub at : a.id ≡ h.id
  pub stands : content_at wire (endpoint_at wire past y h.id) m ≡ Ok c
  pub known : first_strange (endpoint_at wire past y) [] h.ids ≡ None
  pub admits : Admits (endpoint_at wire past y) c.ids h.ids a.admitted
  pub is : told ≡ tells.Taken (record {
    id = a.id;
    target = a.target;
    parameters = a.parameters;
    request = a.request;
    handles = a.named;
    pendings = pendings_at y (pending_ids a.admitted.entries.items);
    gone = goes_behind wire past y a.left;
    moment = a.moment;
  })

-- what a control says that is only told: it closes no endpoint, asks for no version that there is and tells none, and is no flush
abbrev pub IsSilent : Noted → Type 0
IsSilent (noted.Closed id) = ⊥
IsSilent (noted.Queried id (Some v)) = ⊥
IsSilent (noted.Version id v) = ⊥
IsSilent (noted.Flushed k) = ⊥
IsSilent c = Unit {0}

-- a take at y is told what was found there
abbrev pub Tells : Wire → List Event → EndId → Found → Told → Type 0
Tells wire past y (Nothing why) told = told ≡ tells.No why
Tells wire past y (Bad why) told = told ≡ bad wire past y why
Tells wire past y (Dropped id a) told = IsDropped wire past y id a told
Tells wire past y (Control c) told = told ≡ tells.Control c
Tells wire past y (Value a) told = IsGot wire past y a told

-- whether a message of this side, for the endpoint of an id at an end, is a response that nobody waits for
abbrev pub is_unasked : List Event → EndId → ℕ → Bool → MessageSide → ℕ → ℕ → Bool
is_unasked past y id peer_closed side request method = is_response side && (peer_closed || not (is_asked past y id request method))

-- what a header that was read of a message says
abbrev pub header_of : Message → Read → Header
header_of m header = record { id = header.interface_id; ids = ids_read m.bytes }

-- a message is the oldest at an end, and this is its header
pub record IsRead (wire : Wire) (past : List Event) (y : EndId) (m : Message) (header : Read) : Type 0 where
  pub front : front_at wire past y ≡ Some m
  pub says : wire.header m.bytes ≡ Ok (header_of m header)
  pub counted : header.ids.len ≡ 4 * length (ids_read m.bytes)

-- a message was read, it stands for this, and this is what its ids are to the end
pub record IsArriving (wire : Wire) (past : List Event) (y : EndId) (m : Message) (header : Read) (c : Content) (a : Admitted) : Type 0 where
  pub read : IsRead wire past y m header
  pub stands : content_at wire (endpoint_at wire past y header.interface_id) m ≡ Ok c
  pub admits : Admits (endpoint_at wire past y) c.ids (ids_read m.bytes) a
