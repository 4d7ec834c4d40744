-- The machine, read off the list of its events. A past is a list of events, the newest first, so the events before one are its tail.
use Rattle.std.specs.Prelude.{ℕ, suc, Bool, true, false, ◌==◌, ◌&&◌, ◌||◌, ◌++◌, nat_le, List, [], ◌∷◌, not, length, drop, map, filter, if◌then◌else◌, is_some}
use Rattle.std.specs.Prelude.{Option, Some, None, Result, Ok, Err}
use Rattle.std.specs.Option.{option_map}
use Rattle.std.specs.List.{flat_map, list_any}
use Rattle.mj_base.specs.declared.ids.EndId.{EndId}
use Rattle.mj_base.specs.declared.ids.SeqId.{SeqId}
use Rattle.handle_table.specs.declared.thing.Thing.{Thing}
use Rattle.handle_table.specs.declared.thing.Thing.TheVariants.{End, Token}
use Rattle.wire_encoder.specs.declared.endpoint.EndpointSide.{EndpointSide}
use Rattle.wire_encoder.specs.declared.endpoint.EndpointSide.TheVariants.{Remote, Receiver}
use Rattle.wire_encoder.specs.declared.endpoint.WantedEndpoint.{WantedEndpoint}
use Rattle.message_pipe.specs.declared.message.Message.{Message}
use Rattle.bind_model.specs.declared.endpoint.PendingId.{PendingId}
use Rattle.bind_model.specs.declared.endpoint.Endpoint.{Endpoint}
use Rattle.bind_model.specs.declared.endpoint.State.{State}
use Rattle.bind_model.specs.declared.endpoint.State.TheVariants as states
use Rattle.bind_model.specs.declared.asked.Closing.TheVariants as closings
use Rattle.bind_model.specs.declared.asked.Asked.{Asked}
use Rattle.bind_model.specs.declared.asked.Asked.TheVariants.{Bind, Associate, Attach, Call, Answer, Raw, Take, Close, Notify}
use Rattle.bind_model.specs.declared.told.Told.{Told}
use Rattle.bind_model.specs.declared.told.Told.TheVariants.{Made, Bound, Associated, Attached, Sent, Wrote, Taken, Dropped, Control, Bad, Closed, Notified as Informed}
use Rattle.bind_model.specs.declared.asked.Notice.{Notice}
use Rattle.bind_model.specs.declared.asked.Notice.TheVariants.{Query, Require, Flush}
use Rattle.control_bytes.specs.declared.control.Control.{Control as ControlType}
use Rattle.control_bytes.specs.declared.control.Control.TheVariants as controls
use Rattle.bind_model.specs.declared.told.Noted.{Noted}
use Rattle.bind_model.specs.declared.told.Noted.TheVariants as noted
use Rattle.bind_model.specs.declared.told.Notified.{Notified}
use Rattle.bind_model.specs.declared.told.Notified.TheVariants.{Flushing}
use Rattle.bind_model.specs.declared.event.Event.{Event}
use Rattle.bind_model.specs.declared.limits.TheConstants.{REMOTE_IDS}
pub use Rattle.message_pipe.specs.Ends.{spread}
pub use Rattle.message_pipe.specs.Mail.{front_of, handles_of}
use Rattle.handle_table.specs.Things.{same_end, has, without, alike}
use Rattle.bind_model.specs.Wire.{Wire, Named, Content}

-- ## What is read off commands and replies alone

-- the things that a reply made, and all of them in the order of their making
abbrev pub made_by : Told → List Thing
made_by (Made things) = things
made_by told = []

-- all things that were made, in the order of their making
abbrev pub made : List Event → List Thing
made [] = []
made (event ∷ past) = made past ++ made_by event.told

-- of the two ends of a pipe each is the other's peer
abbrev pub peer_in : List Thing → EndId → EndId → EndId
peer_in (End a ∷ End b ∷ []) x before = if same_end a x then b else (if same_end b x then a else before)
peer_in things x before = before

-- the other end of an end, by what an event made and what it was before
abbrev pub peer_by : Told → EndId → EndId → EndId
peer_by (Made things) x before = peer_in things x before
peer_by told x before = before

-- the other end of its pipe; of an end that was not made, itself
abbrev pub peer : List Event → EndId → EndId
peer [] x = x
peer (event ∷ past) x = peer_by event.told x (peer past x)

-- what went with a reply, and all that went
abbrev pub gone_by : Told → List Thing
gone_by (Taken g) = g.gone
gone_by (Dropped id gone) = gone
gone_by (Bad why gone) = gone
gone_by (Closed gone) = gone
gone_by told = []

-- all things that went, in order
abbrev pub gone : List Event → List Thing
gone [] = []
gone (event ∷ past) = gone past ++ gone_by event.told

-- whether an end went
abbrev pub is_gone : List Event → EndId → Bool
is_gone past x = has (gone past) (End x)

-- the ends that were bound
abbrev pub bound_by : Told → List Thing
bound_by (Bound x) = End x ∷ []
bound_by told = []

-- all ends that were bound, in order
abbrev pub bounds : List Event → List Thing
bounds [] = []
bounds (event ∷ past) = bounds past ++ bound_by event.told

-- the things that a caller gave away with a command that was done
abbrev pub given : Told → Asked → List Thing
given (Bound z) (Bind y side interface) = y ∷ []
given (Sent request bytes) (Call y id outgoing) = outgoing.handles
given (Sent request bytes) (Answer r outgoing) = outgoing.handles
given (Wrote z) (Raw y bytes handles) = handles
given (Closed gone) (Close (closings.Handle y)) = y ∷ []
given told asked = []

-- the things that a reply hands out
abbrev pub handed : Told → List Thing
handed (Made things) = things
handed (Taken g) = g.handles
handed told = []

-- the things whose handles are with callers
abbrev pub out : List Event → List Thing
out [] = []
out (event ∷ past) = without (given event.told event.asked) (out past) ++ handed event.told

-- the takes at x that consumed a message, by what they were told
abbrev pub takes : Told → Asked → EndId → List Told
takes (Taken g) (Take y) x = if same_end y x then Taken g ∷ [] else []
takes (Dropped id gone) (Take y) x = if same_end y x then Dropped id gone ∷ [] else []
takes (Control c) (Take y) x = if same_end y x then Control c ∷ [] else []
takes told asked x = []

-- what the takes at x that consumed a message were told, in order
abbrev pub taken : List Event → EndId → List Told
taken [] x = []
taken (event ∷ past) x = taken past x ++ takes event.told event.asked x

-- how many messages were consumed at x
abbrev pub consumed : List Event → EndId → ℕ
consumed past x = length (taken past x)

-- the ids that Associate gave at x
abbrev pub associates : Told → EndId → List ℕ
associates (Associated p) x = if same_end p.end x then p.id ∷ [] else []
associates told x = []

-- all ids that Associate gave at x, in order
abbrev pub associated : List Event → EndId → List ℕ
associated [] x = []
associated (event ∷ past) x = associated past x ++ associates event.told x

-- whether a pending was made here, and not received
abbrev pub is_local : List Event → PendingId → Bool
is_local past p = list_any (λ id. id == p.id) (associated past p.end)

-- ## Messages and endpoints: each needs the other

-- what is unread of what was written
abbrev pub unread_of : List Event → EndId → List Message → List Message
unread_of past x mail = if is_gone past x then [] else drop (consumed past x) mail

-- the ids that a message carries
abbrev pub ids_in : Wire → Message → List ℕ
ids_in wire m = elim (wire.header m.bytes) [ Ok h ↦ h.ids | Err fault ↦ [] ]

-- the endpoints that a table has
abbrev pub Endpoints : Type 0
Endpoints = ℕ → Option Endpoint

-- whether there is an endpoint and it is a remote
abbrev pub is_remote : Option Endpoint → Bool
is_remote (Some e) = elim e.side [ Remote ↦ true | Receiver ↦ false ]
is_remote None = false

-- whether an id is one that this end makes itself: those of a remote have their highest bit set
abbrev pub is_own : Endpoints → ℕ → Bool
is_own endpoints id = alike (nat_le REMOTE_IDS id) (is_remote (endpoints 0))

-- an id is strange in the table, behind itself in the list, or where this end would make it
abbrev pub is_strange : Endpoints → List ℕ → ℕ → Bool
is_strange endpoints earlier id = is_some (endpoints id) || list_any (λ k. k == id) earlier || is_own endpoints id

-- the first strange id of a list, behind those that stand before it
abbrev pub first_strange : Endpoints → List ℕ → List ℕ → Option ℕ
first_strange endpoints earlier [] = None
first_strange endpoints earlier (id ∷ ids) = if is_strange endpoints earlier id then Some id else first_strange endpoints (id ∷ earlier) ids

-- an id that comes with a message, and how it enters the table
pub record Entry : Type 0 where
  pub id : ℕ
  pub endpoint : Endpoint

-- the endpoint of an id that no value names
abbrev pub closed_endpoint : Endpoint
closed_endpoint = record { side = Remote; interface = 0; state = states.Closed; peer_closed = false }

-- the endpoint of an id that a value names
abbrev pub pending_as : WantedEndpoint → Endpoint
pending_as wanted = record { side = wanted.side; interface = wanted.interface; state = states.Pending; peer_closed = false }

-- by the kind where the value names it, else closed
abbrev pub endpoint_named : List Named → ℕ → Endpoint
endpoint_named [] k = closed_endpoint
endpoint_named (n ∷ named) k = if n.index == k then pending_as n.endpoint else endpoint_named named k

-- how the ids of a message enter the table, those of places from k on; a strange one does not enter
abbrev pub entries_of : Endpoints → List Named → ℕ → List ℕ → List ℕ → List Entry
entries_of endpoints named k earlier [] = []
entries_of endpoints named k earlier (id ∷ ids) =
    if is_strange endpoints earlier id then entries_of endpoints named (suc k) (id ∷ earlier) ids
    else (record { id = id; endpoint = endpoint_named named k } ∷ entries_of endpoints named (suc k) (id ∷ earlier) ids)

-- what a message stands for at an endpoint
abbrev pub content_at : Wire → Option Endpoint → Message → Result Content Unit
content_at wire None m = Err tt
content_at wire (Some e) m = elim (wire.stands e.side e.interface m.bytes (length m.handles)) [ Ok c ↦ Ok c | Err fault ↦ Err tt ]

-- the endpoints that the value names, where the message stands
abbrev pub named_in : Result Content Unit → List Named
named_in (Ok c) = c.ids
named_in (Err e) = []

-- the ids that a take enters, by what it is told and the message that it consumed
abbrev pub enters_from : Wire → Endpoints → Told → Option Message → List Entry
enters_from wire endpoints told None = []
enters_from wire endpoints (Taken g) (Some m) = entries_of endpoints (named_in (content_at wire (endpoints g.id) m)) 0 [] (ids_in wire m)
enters_from wire endpoints told (Some m) = entries_of endpoints [] 0 [] (ids_in wire m)

-- the ids that a take at y enters, by its mail, its table and what it is told
abbrev pub enters : Wire → List Event → EndId → List Message → Endpoints → Told → List Entry
enters wire past y mail endpoints told = enters_from wire endpoints told (front_of (unread_of past y mail))

-- whether an endpoint is closed
abbrev pub is_closed : Endpoint → Bool
is_closed e = elim e.state [ states.Closed ↦ true | states.Pending ↦ false | states.Bound t ↦ false ]

-- the ids that enter as closed
abbrev pub closed_ids : List Entry → List ℕ
closed_ids entries = map (λ (e : Entry). e.id) (filter (λ (e : Entry). is_closed e.endpoint) entries)

-- whether the peer of an endpoint is known to be closed
abbrev pub is_peer_closed : Option Endpoint → Bool
is_peer_closed None = false
is_peer_closed (Some e) = e.peer_closed

-- the controls of these ids at an end, unless it is gone or their peer endpoint is known to be closed
abbrev pub emits : Wire → List Event → EndId → Endpoints → (ℕ → ControlType) → List ℕ → EndId → List Message
emits wire past y endpoints control ids x =
    if same_end (peer past y) x && not (is_gone past x)
    then map (λ id. record { bytes = wire.control (control id); handles = []; emitted = true }) (filter (λ id. not (is_peer_closed (endpoints id))) ids)
    else []

-- what a take of a control makes the machine write back: the version of the receiver that was asked
abbrev pub emits_for : Wire → List Event → EndId → Endpoints → Noted → EndId → List Message
emits_for wire past y endpoints (noted.Queried id (Some v)) x = emits wire past y endpoints (λ n. controls.Version n v) (id ∷ []) x
emits_for wire past y endpoints c x = []

-- the control that a notice is written as, by what is told: a flush has the number that is told
abbrev pub control_of : Notice → Notified → ControlType
control_of (Query id) told = controls.Query id
control_of (Require id v) told = controls.Require id v
control_of Flush (Flushing k) = controls.Flush k
control_of Flush told = controls.Flush 0

-- the message that is written from y, where x is at the other side
abbrev pub lands : List Event → EndId → List ℕ → List Thing → EndId → List Message
lands past y bytes handles x = if same_end (peer past y) x then record { bytes = bytes; handles = handles; emitted = false } ∷ [] else []

-- the endpoint that an id enters with, else the one that it had
abbrev pub entry_in : List Entry → ℕ → Option Endpoint → Option Endpoint
entry_in [] id before = before
entry_in (e ∷ entries) id before = if e.id == id then Some e.endpoint else entry_in entries id before

-- an endpoint, in this state
abbrev pub with_state : State → Endpoint → Endpoint
with_state state e = record e { state = state }

-- an endpoint whose peer is known to be closed
abbrev pub with_peer_closed : Endpoint → Endpoint
with_peer_closed e = record e { peer_closed = true }

-- a new endpoint, bound on a sequence
abbrev pub bound_on : SeqId → EndpointSide → ℕ → Endpoint
bound_on seq side interface = record { side = side; interface = interface; state = states.Bound seq; peer_closed = false }

-- the new endpoint at the place where it changes, else the one that stands
abbrev pub only_at : EndId → ℕ → EndId → ℕ → Option Endpoint → Option Endpoint → Option Endpoint
only_at y n x id now before = if same_end y x && (n == id) then now else before

-- what a control that was consumed makes of an endpoint
abbrev pub marks : EndId → Noted → EndId → ℕ → Option Endpoint → Option Endpoint
marks y (noted.Closed n) x id before = only_at y n x id (option_map with_peer_closed before) before
marks y c x id before = before

-- the side of its peer
abbrev pub other_side : EndpointSide → EndpointSide
other_side Remote = Receiver
other_side Receiver = Remote

-- by the mail and the endpoints before an event
module _ (wire : Wire) (past : List Event) (mail : EndId → List Message) (endpoints : EndId → Endpoints) where
  -- the ids that a take at y enters
  abbrev entering : EndId → Told → List Entry
  entering y told = enters wire past y (mail y) (endpoints y) told

  -- the messages that the event puts at x
  abbrev pub puts : Told → Asked → EndId → List Message
  puts (Sent request bytes) (Call y id outgoing) x = lands past y bytes outgoing.handles x
  puts (Sent request bytes) (Answer r outgoing) x = lands past r.end bytes outgoing.handles x
  puts (Wrote z) (Raw y bytes handles) x = lands past z bytes handles x
  puts (Taken g) (Take y) x = emits wire past y (endpoints y) controls.Closed (closed_ids (entering y (Taken g))) x
  puts (Dropped id gone) (Take y) x = emits wire past y (endpoints y) controls.Closed (closed_ids (entering y (Dropped id gone))) x
  puts (Control c) (Take y) x = emits_for wire past y (endpoints y) c x
  puts (Informed n) (Notify y notice) x = lands past y (wire.control (control_of notice n)) [] x
  puts (Closed gone) (Close (closings.Endpoint y id)) x = if id == 0 then [] else emits wire past y (endpoints y) controls.Closed (id ∷ []) x
  puts (Closed gone) (Close (closings.Pending p)) x =
      if is_gone past p.end || is_local past p then [] else emits wire past p.end (endpoints p.end) controls.Closed (p.id ∷ []) x
  puts told asked x = []

  -- what the event makes of the endpoint id of x
  abbrev pub changes : SeqId → Told → Asked → EndId → ℕ → Option Endpoint
  changes seq (Bound z) (Bind y side interface) x id = only_at z 0 x id (Some (bound_on seq side interface)) (endpoints x id)
  changes seq (Associated p) (Associate y side interface) x id = only_at p.end p.id x id (Some (bound_on seq side interface)) (endpoints x id)
  changes seq (Attached n) (Attach p t) x id = only_at p.end p.id x id (option_map (with_state (states.Bound t)) (endpoints x id)) (endpoints x id)
  changes seq (Taken g) (Take y) x id = if same_end y x then entry_in (entering y (Taken g)) id (endpoints x id) else endpoints x id
  changes seq (Dropped n gone) (Take y) x id = if same_end y x then entry_in (entering y (Dropped n gone)) id (endpoints x id) else endpoints x id
  changes seq (Control c) (Take y) x id = marks y c x id (endpoints x id)
  changes seq (Closed gone) (Close (closings.Endpoint y n)) x id = only_at y n x id (option_map (with_state states.Closed) (endpoints x id)) (endpoints x id)
  changes seq (Closed gone) (Close (closings.Pending p)) x id =
      only_at p.end p.id x id
      (if is_local past p then option_map with_peer_closed (endpoints x id) else option_map (with_state states.Closed) (endpoints x id))
      (endpoints x id)
  changes seq told asked x id = endpoints x id

abbrev mutual
  -- the messages written for reading at x, in the order of the events that put them
  pub written : Wire → List Event → EndId → List Message
  written wire [] x = []
  written wire (event ∷ past) x = written wire past x ++ puts wire past (written wire past) (endpoint_at wire past) event.told event.asked x

  -- the endpoint of this id at x
  pub endpoint_at : Wire → List Event → EndId → ℕ → Option Endpoint
  endpoint_at wire [] x id = None
  endpoint_at wire (event ∷ past) x id = changes wire past (written wire past) (endpoint_at wire past) event.seq event.told event.asked x id

-- the unread messages, the oldest first: what was written without what was consumed, and nothing once the end is gone
abbrev pub unread : Wire → List Event → EndId → List Message
unread wire past x = unread_of past x (written wire past x)

-- ## Handles in messages, and what goes with what is closed

-- the handles of a thing's unread messages
abbrev pub carried : Wire → List Event → Thing → List Thing
carried wire past (End x) = handles_of (unread wire past x)
carried wire past (Token t) = []

-- as carried, where the front at y was just consumed
abbrev pub carried_behind : Wire → List Event → EndId → Thing → List Thing
carried_behind wire past y (End x) = handles_of (drop (if same_end y x then 1 else 0) (unread wire past x))
carried_behind wire past y (Token t) = []

-- what goes where these are closed. Nothing stands in it twice, so as many turns as there are things are enough
abbrev pub goes_with : Wire → List Event → List Thing → List Thing
goes_with wire past things = spread (carried wire past) (length (made past)) things

-- the same, where the front at y was just consumed
abbrev pub goes_behind : Wire → List Event → EndId → List Thing → List Thing
goes_behind wire past y things = spread (carried_behind wire past y) (length (made past)) things

-- the handles of all unread messages
abbrev pub held_unread : Wire → List Event → List Thing
held_unread wire past = flat_map (carried wire past) (made past)

-- the bound ends that are not gone
abbrev pub held_bound : List Event → List Thing
held_bound past = without (gone past) (bounds past)
