-- The one reply to a command, by the events before it.
use Rattle.std.specs.Prelude.{ℕ, suc, Bool, true, false, ◌+◌, ◌≡◌, ◌<◌, reverse, ◌==◌, ◌&&◌, ◌||◌, nat_le, nat_lt, List, [], ◌∷◌, not, length, map}
use Rattle.std.specs.Prelude.{if◌then◌else◌, is_some, Option, Some, None, Result, Ok, Err}
use Rattle.std.specs.List.{list_any, count_by}
use Rattle.mj_base.specs.declared.ids.EndId.{EndId}
use Rattle.mj_base.specs.declared.ids.SeqId.{SeqId}
use Rattle.handle_table.specs.declared.thing.Thing.{Thing}
use Rattle.handle_table.specs.declared.thing.Thing.TheVariants.{End, Token}
use Rattle.mj_base.specs.declared.fault.FaultKind.TheVariants.{IllegalHandle}
use Rattle.wire_model.specs.HeaderMarks.{CONTROL_ID}
use Rattle.bind_model.specs.declared.limits.TheConstants.{MAX_RAW_BYTES, MAX_RAW_HANDLES, REMOTE_IDS}
use Rattle.wire_model.specs.declared.target.MessageSide.TheVariants.{Response}
use Rattle.wire_model.specs.declared.target.Target.{Target}
use Rattle.mj_base.specs.declared.fault.Fault.{Fault}
use Rattle.message_pipe.specs.declared.message.Message.{Message}
use Rattle.bind_model.specs.declared.endpoint.PendingId.{PendingId}
use Rattle.bind_model.specs.declared.endpoint.ResponderId.{ResponderId}
use Rattle.bind_model.specs.declared.endpoint.Endpoint.{Endpoint}
use Rattle.bind_model.specs.declared.endpoint.State.{State}
use Rattle.bind_model.specs.declared.endpoint.State.TheVariants as states
use Rattle.bind_model.specs.declared.asked.Outgoing.{Outgoing}
use Rattle.bind_model.specs.declared.asked.Closing.{Closing}
use Rattle.bind_model.specs.declared.asked.Closing.TheVariants as closings
use Rattle.bind_model.specs.declared.asked.Asked.{Asked}
use Rattle.bind_model.specs.declared.asked.Asked.TheVariants.{Pipe, Join, Mint, Bind, Associate, Attach, Call, Answer, Raw, Take, Close, Notify, Pause, Data}
use Rattle.bind_model.specs.declared.asked.Asked.TheVariants.{Flow as Move, Skip}
use Rattle.bind_model.specs.declared.asked.Notice.{Notice}
use Rattle.bind_model.specs.declared.asked.Notice.TheVariants.{Query, Require, Flush}
use Rattle.control_bytes.specs.declared.control.Control.{Control as ControlType}
use Rattle.control_bytes.specs.declared.control.Control.TheVariants as controls
use Rattle.bind_model.specs.declared.told.Noted.TheVariants as noted
use Rattle.bind_model.specs.declared.told.Notified.{Notified}
use Rattle.bind_model.specs.declared.told.Notified.TheVariants.{Asking, Requiring, Flushing}
use Rattle.bind_model.specs.declared.told.BadWhy.{BadWhy}
use Rattle.bind_model.specs.declared.told.BadWhy.TheVariants as bads
use Rattle.bind_model.specs.declared.told.Why.{Why}
use Rattle.bind_model.specs.declared.told.Why.TheVariants.{NoName, NotPipe, Disconnected, Unbound, Elsewhere, WrongSide, WrongMethod, WrongPipe, TooLong}
use Rattle.bind_model.specs.declared.told.Why.TheVariants.{TooManyHandles, Empty, PeerClosed, Paused, SelfPause, BadSize}
use Rattle.bind_model.specs.declared.told.Told.{Told}
use Rattle.bind_model.specs.declared.told.Told.TheVariants.{Made, Bound, Associated, Attached, Sent, Wrote, Taken, Dropped, Control, Bad, Closed}
use Rattle.bind_model.specs.declared.told.Told.TheVariants.{Notified as Informed, Pausing, Skipped, No}
use Rattle.bind_model.specs.declared.event.Event.{Event}
use Rattle.handle_table.specs.Things.{same_end, has, is_end, seq_of}
use Rattle.bind_model.specs.Wire.{Wire, Header, Named, Content}
use Rattle.bind_model.specs.Machine.{made, peer, is_gone, out, associated, is_local, endpoint_at, unread, is_remote, is_closed, first_strange, goes_with}
use Rattle.bind_model.specs.Machine.{goes_behind}
use Rattle.bind_model.specs.Notices.{query_pends, flushed as flushes_at, waits, first_unmet}
pub use Rattle.bind_model.specs.Rights.{Drawn, draws, drawn, is_response, answers, answered, is_asked, same_pending, has_pending, distinct_pendings}
pub use Rattle.bind_model.specs.Rights.{pendings_given, pendings_handed, pendings_out, same_responder, less_one, responders_handed, responders_after}
pub use Rattle.bind_model.specs.Rights.{responders_out}
pub use Rattle.bind_model.specs.Tests.{first_of, unless, all_out, all_pending, unbound, elsewhere, is_receiver, same_side, pending_side, suits, all_suit}
pub use Rattle.bind_model.specs.Tests.{wrong_pipe, is_full, tokens_right, wrong_tokens, busy, cannot_write, same_target, is_none}
pub use Rattle.bind_model.specs.Moves.{is_right_size, begun_already, nothing_begun, space_in, view_in, nothing_held, least_of, moved, moved_at, moved_by}

-- how many ends a sequence numbered
abbrev pub serials : List Event → ℕ → ℕ
serials past seq = count_by (λ x. is_end x && (seq_of x == seq)) (made past)

-- how many tokens a sequence numbered
abbrev pub tokens : List Event → ℕ → ℕ
tokens past seq = count_by (λ x. not (is_end x) && (seq_of x == seq)) (made past)

-- the ends of a new pipe: one is numbered by the sequence that asks, one by t
abbrev pub joined : List Event → ℕ → ℕ → Told
joined past seq t =
    Made (End (record { seq = seq; serial = serials past seq }) ∷ End (record { seq = t; serial = serials past t + (if t == seq then 1 else 0) }) ∷ [])

-- an end can be bound
abbrev pub bound_as : Thing → Told
bound_as (End x) = Bound x
bound_as (Token t) = No NotPipe

-- the next id that an end makes
abbrev pub next_id : Wire → List Event → EndId → ℕ
next_id wire past y = length (associated past y) + 1 + (if is_remote (endpoint_at wire past y 0) then REMOTE_IDS else 0)

-- the next request number of an endpoint, or 0 for a method without a response
abbrev pub request_of : Wire → List Event → EndId → ℕ → Target → ℕ
request_of wire past y id target = if wire.responds target.interface target.method then length (drawn past y id) + 1 else 0

-- the ids of pendings
abbrev pub ids_of : List PendingId → List ℕ
ids_of ps = map (λ (p : PendingId). p.id) ps

-- a message for the endpoint of an id, with a request id
abbrev pub sent : Wire → ℕ → Outgoing → ℕ → Told
sent wire id s request = Sent request (wire.sealed s.target s.parameters (record { id = id; request = request; ids = ids_of s.pendings; moment = s.moment }))

-- the reply to a call at an endpoint
abbrev pub called : Wire → List Event → SeqId → EndId → ℕ → Outgoing → Option Endpoint → Told
called wire past seq y id s None = No NoName
called wire past seq y id s (Some r) = first_of (
    unless (all_out past s.handles && all_pending past s.pendings) NoName
    ∷ unless (not (is_gone past y || is_closed r)) Disconnected
    ∷ unbound id r
    ∷ elsewhere seq r
    ∷ unless (not (is_receiver r.side)) WrongSide
    ∷ unless ((s.target.interface == r.interface) && not (is_response s.target.side)) WrongMethod
    ∷ wrong_tokens wire past s
    ∷ wrong_pipe past y s.pendings
    ∷ cannot_write wire past y r.peer_closed s.handles)
    (sent wire id s (request_of wire past y id s.target))

-- the reply to the answer of a responder at its endpoint
abbrev pub answered_with : Wire → List Event → SeqId → ResponderId → Outgoing → Option Endpoint → Told
answered_with wire past seq r s None = No NoName
answered_with wire past seq r s (Some e) = first_of (
    unless (list_any (λ q. same_responder q r) (responders_out wire past) && all_out past s.handles && all_pending past s.pendings) NoName
    ∷ unless (not (is_gone past r.end || is_closed e)) Disconnected
    ∷ elsewhere seq e
    ∷ unless (same_target s.target (record { interface = r.interface; method = r.method; side = Response })) WrongMethod
    ∷ wrong_tokens wire past s
    ∷ wrong_pipe past r.end s.pendings
    ∷ cannot_write wire past r.end e.peer_closed s.handles)
    (sent wire r.id s r.request)

-- the reply to raw bytes at an end that is out
abbrev pub wrote_at : Wire → List Event → Thing → List ℕ → List Thing → Told
wrote_at wire past (Token t) bytes handles = No NotPipe
wrote_at wire past (End x) bytes handles = first_of (
    unless (nat_le (length bytes) MAX_RAW_BYTES) TooLong
    ∷ unless (nat_le (length handles) MAX_RAW_HANDLES) TooManyHandles
    ∷ cannot_write wire past x false handles)
    (Wrote x)

-- those whose places stand in a list, and the others
abbrev pub picked : {A : Type 0} → List ℕ → ℕ → List A → List A
picked at k [] = []
picked at k (x ∷ xs) = if list_any (λ n. n == k) at then x ∷ picked at (suc k) xs else picked at (suc k) xs

-- those whose places do not stand in the list
abbrev pub unpicked : {A : Type 0} → List ℕ → ℕ → List A → List A
unpicked at k [] = []
unpicked at k (x ∷ xs) = if list_any (λ n. n == k) at then unpicked at (suc k) xs else x ∷ unpicked at (suc k) xs

-- the pendings of these ids at an end
abbrev pub pendings_at : EndId → List ℕ → List PendingId
pendings_at y ids = map (λ id. record { end = y; id = id }) ids

-- the front is bad: the end goes, and all that goes with it
abbrev pub bad : Wire → List Event → EndId → BadWhy → Told
bad wire past y why = Bad why (goes_with wire past (End y ∷ []))

-- steps 5 and 6: what the message stands for is got, unless nobody asked for it or an id is strange
abbrev pub got : Wire → List Event → EndId → Message → Header → Content → Told
got wire past y m h c = Taken (record {
  id = h.id;
  target = c.target;
  parameters = c.parameters;
  request = c.request;
  handles = picked c.handles 0 m.handles;
  pendings = pendings_at y (picked (map (λ (n : Named). n.index) c.ids) 0 h.ids);
  gone = goes_behind wire past y (unpicked c.handles 0 m.handles);
  moment = c.moment;
})

-- the message is got, unless it carries a strange id
abbrev pub got_known : Wire → List Event → EndId → Message → Header → Content → Option ℕ → Told
got_known wire past y m h c (Some id) = bad wire past y (bads.StrangeId id)
got_known wire past y m h c None = got wire past y m h c

-- a response is got only where it was asked for
abbrev pub got_asked : Wire → List Event → EndId → Message → Header → Endpoint → Content → Told
got_asked wire past y m h r c =
    if is_response c.target.side && (r.peer_closed || not (is_asked past y h.id c.request c.target.method))
    then bad wire past y (bads.Unasked c.request)
    else got_known wire past y m h c (first_strange (endpoint_at wire past y) [] h.ids)

-- what becomes of a message, by what it stands for at its endpoint
abbrev pub judged : Wire → List Event → EndId → Message → Header → Endpoint → Result Content Fault → Told
judged wire past y m h r (Err fault) = bad wire past y (bads.Message fault)
judged wire past y m h r (Ok c) = got_asked wire past y m h r c

-- what becomes of a message, by where its endpoint is
abbrev pub at_state : Wire → List Event → SeqId → EndId → Message → Header → Endpoint → State → Told
at_state wire past seq y m h r states.Closed = Dropped h.id (goes_behind wire past y m.handles)
at_state wire past seq y m h r states.Pending = No (Unbound h.id)
at_state wire past seq y m h r (states.Bound t) =
    if t.0 == seq.0 then judged wire past y m h r (wire.stands r.side r.interface m.bytes (length m.handles)) else No (Elsewhere t)

-- what becomes of a message for an endpoint of the table
abbrev pub at_endpoint : Wire → List Event → SeqId → EndId → Message → Header → Option Endpoint → Told
at_endpoint wire past seq y m h None = Dropped h.id (goes_behind wire past y m.handles)
at_endpoint wire past seq y m h (Some r) = at_state wire past seq y m h r r.state

-- the version of an endpoint that is a receiver and isn't closed
abbrev pub version_of : Wire → Option Endpoint → Option ℕ
version_of wire None = None
version_of wire (Some r) = if is_receiver r.side && not (is_closed r) then Some (wire.version r.interface) else None

-- whether a receiver is older than a version
abbrev pub is_older : Option ℕ → ℕ → Bool
is_older None n = false
is_older (Some v) n = nat_lt v n

-- what a control is told as, and when it is bad
abbrev pub heard : Wire → List Event → EndId → ControlType → Told
heard wire past y (controls.Closed id) = Control (noted.Closed id)
heard wire past y (controls.Query id) = Control (noted.Queried id (version_of wire (endpoint_at wire past y id)))
heard wire past y (controls.Version id v) =
    if query_pends past y id (endpoint_at wire past y id) then Control (noted.Version id v) else bad wire past y (bads.Unasked 0)
heard wire past y (controls.Require id v) =
    if is_older (version_of wire (endpoint_at wire past y id)) v then bad wire past y (bads.TooOld v) else Control (noted.Required id v)
heard wire past y (controls.Flush k) = Control (noted.Flushed k)

-- a control is bad where it says nothing or comes with handles
abbrev pub controlled : Wire → List Event → EndId → Message → Result ControlType Fault → Told
controlled wire past y m (Err fault) = bad wire past y (bads.Message fault)
controlled wire past y m (Ok c) = if is_none m.handles then heard wire past y c else bad wire past y (bads.Message (record { kind = IllegalHandle; at = 0 }))

-- what becomes of a message, by its header
abbrev pub headed : Wire → List Event → SeqId → EndId → Message → Result Header Fault → Told
headed wire past seq y m (Err fault) = bad wire past y (bads.Message fault)
headed wire past seq y m (Ok h) =
    if h.id == CONTROL_ID then controlled wire past y m (wire.says m.bytes) else at_endpoint wire past seq y m h (endpoint_at wire past y h.id)

-- the reply to a take, by the mail at its end
abbrev pub took_front : Wire → List Event → SeqId → EndId → List Message → Told
took_front wire past seq y [] = if is_gone past (peer past y) then No PeerClosed else No Empty
took_front wire past seq y (m ∷ ms) = headed wire past seq y m (wire.header m.bytes)

-- the refusal of an end that waits for another
abbrev pub pause_of : Option EndId → Option Why
pause_of None = None
pause_of (Some x) = Some (Paused x)

-- an end with a wait that isn't met is paused
abbrev pub paused : List Event → EndId → Option Why
paused past y = pause_of (first_unmet past (waits past y))

-- the reply to a take at an end
abbrev pub took : Wire → List Event → SeqId → EndId → Told
took wire past seq y =
    first_of (unless (is_some (endpoint_at wire past y 0)) NoName ∷ unless (not (is_gone past y)) Disconnected ∷ paused past y ∷ [])
    (took_front wire past seq y (unread wire past y))

-- a take that looks at no wait
abbrev pub took_open : Wire → List Event → SeqId → EndId → Told
took_open wire past seq y =
    first_of (unless (is_some (endpoint_at wire past y 0)) NoName ∷ unless (not (is_gone past y)) Disconnected ∷ [])
    (took_front wire past seq y (unread wire past y))

-- the reply to a close of an endpoint of the table; that of endpoint 0 closes the end
abbrev pub closed_at : Wire → List Event → SeqId → EndId → ℕ → Option Endpoint → Told
closed_at wire past seq y id None = No NoName
closed_at wire past seq y id (Some r) = first_of (
    unless (not (is_gone past y || is_closed r)) Disconnected
    ∷ unbound id r
    ∷ elsewhere seq r
    ∷ [])
    (Closed (if id == 0 then goes_with wire past (End y ∷ []) else []))

-- the reply to a close
abbrev pub closed : Wire → List Event → SeqId → Closing → Told
closed wire past seq (closings.Handle x) = first_of (unless (has (out past) x) NoName ∷ []) (Closed (goes_with wire past (x ∷ [])))
closed wire past seq (closings.Pending p) = first_of (unless (has_pending (pendings_out past) p) NoName ∷ []) (Closed [])
closed wire past seq (closings.Responder r) = first_of (unless (list_any (λ q. same_responder q r) (responders_out wire past)) NoName ∷ []) (Closed [])
closed wire past seq (closings.Endpoint y id) = closed_at wire past seq y id (endpoint_at wire past y id)

-- whether the half of a pending that is here is closed
abbrev pub half_closed : Option Endpoint → Bool
half_closed None = false
half_closed (Some r) = is_closed r

-- ## Controls that ends write

-- the endpoint that a notice is written from
abbrev pub from_id : Notice → ℕ
from_id (Query id) = id
from_id (Require id v) = id
from_id Flush = 0

-- whether a notice is a flush
abbrev pub is_flush : Notice → Bool
is_flush (Query id) = false
is_flush (Require id v) = false
is_flush Flush = true

-- the flushes of an end have the numbers 1, 2, 3 and so on
abbrev pub told_of : List Event → EndId → Notice → Notified
told_of past y (Query id) = Asking
told_of past y (Require id v) = Requiring
told_of past y Flush = Flushing (length (flushes_at past y) + 1)

-- endpoint 0, which flushes, is never pending
abbrev pub notified : Wire → List Event → SeqId → EndId → Notice → Option Endpoint → Told
notified wire past seq y notice None = No NoName
notified wire past seq y notice (Some r) = first_of (
    unless (not (is_gone past y || is_closed r)) Disconnected
    ∷ unbound (from_id notice) r
    ∷ elsewhere seq r
    ∷ unless (is_flush notice || not (is_receiver r.side)) WrongSide
    ∷ cannot_write wire past y (not (is_flush notice) && r.peer_closed) [])
    (Informed (told_of past y notice))

-- the reply to a pause of end b for end a
abbrev pub pausing : List Event → SeqId → EndId → EndId → Option Endpoint → Option Endpoint → Told
pausing past seq b a None at_a = No NoName
pausing past seq b a (Some rb) None = No NoName
pausing past seq b a (Some rb) (Some ra) = first_of (
    unless (not (is_gone past b)) Disconnected
    ∷ elsewhere seq rb
    ∷ (if is_gone past a then None else elsewhere seq ra)
    ∷ unless (not (same_end b a)) SelfPause
    ∷ [])
    Pausing

-- ## All commands

-- the two tokens of a new data pipe, the producer first
abbrev pub data_made : List Event → ℕ → Told
data_made past seq =
    Made (Token (record { seq = seq; serial = tokens past seq }) ∷ Token (record { seq = seq; serial = tokens past seq + 1 }) ∷ [])

-- the reply to a command
abbrev pub answer : Wire → ℕ → List Event → SeqId → Asked → Told
answer wire seqs past seq Pipe = joined past seq.0 seq.0
answer wire seqs past seq (Join t) = first_of (unless (nat_lt t.0 seqs) NoName ∷ []) (joined past seq.0 t.0)
answer wire seqs past seq (Mint sort) = Made (Token (record { seq = seq.0; serial = tokens past seq.0 }) ∷ [])
answer wire seqs past seq (Bind x side interface) = first_of (unless (has (out past) x && nat_lt interface wire.interfaces) NoName ∷ []) (bound_as x)
answer wire seqs past seq (Associate y side interface) = first_of (
    unless (is_some (endpoint_at wire past y 0) && nat_lt interface wire.interfaces) NoName
    ∷ unless (not (is_gone past y)) Disconnected
    ∷ [])
    (Associated (record { end = y; id = next_id wire past y }))
answer wire seqs past seq (Attach p t) = first_of (
    unless (has_pending (pendings_out past) p && nat_lt t.0 seqs) NoName
    ∷ unless (not (is_gone past p.end || half_closed (endpoint_at wire past p.end p.id))) Disconnected
    ∷ unless (not (is_local past p)) (WrongPipe p.id)
    ∷ [])
    (Attached p.id)
answer wire seqs past seq (Call y id outgoing) = called wire past seq y id outgoing (endpoint_at wire past y id)
answer wire seqs past seq (Answer r outgoing) = answered_with wire past seq r outgoing (endpoint_at wire past r.end r.id)
answer wire seqs past seq (Raw x bytes handles) = first_of (unless (all_out past (x ∷ handles)) NoName ∷ []) (wrote_at wire past x bytes handles)
answer wire seqs past seq (Take y) = took wire past seq y
answer wire seqs past seq (Close thing) = closed wire past seq thing
answer wire seqs past seq (Notify y notice) = notified wire past seq y notice (endpoint_at wire past y (from_id notice))
answer wire seqs past seq (Pause b a k) = pausing past seq b a (endpoint_at wire past b 0) (endpoint_at wire past a 0)
answer wire seqs past seq (Data size) = first_of (unless (is_right_size size) (BadSize size) ∷ []) (data_made past seq.0)
answer wire seqs past seq (Move x f) = first_of (unless (has (out past) x) NoName ∷ []) (moved_by past x f)
answer wire seqs past seq (Skip line) = Skipped

-- each event is of a sequence that is there, and its reply is the one that the events before it give
abbrev pub legal : Wire → ℕ → List Event → Type 0
legal wire seqs [] = Unit {0}
legal wire seqs (event ∷ past) = (event.seq.0 < seqs) × (event.told ≡ answer wire seqs past event.seq event.asked) × legal wire seqs past

-- a history, the oldest event first
abbrev pub Legal : Wire → ℕ → List Event → Type 0
Legal wire seqs history = legal wire seqs (reverse history)
