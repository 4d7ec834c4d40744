-- What a reply can be, case by case, with what each case knows.
use Rattle.std.proofs.Common.{◌≡◌, ℕ, ◌+◌, Bool, true, false, List, [], ◌∷◌, length, refl, ◌⊎◌, inl, inr}
use Rattle.std.specs.Prelude.{take, Option, Some, None, Ok, if◌then◌else◌, not, ◌&&◌, ◌||◌, ◌==◌, nat_le, is_some}
use Rattle.std.specs.List.{list_any}
use Rattle.mj_base.specs.declared.ids.EndId.{EndId}
use Rattle.mj_base.specs.declared.ids.SeqId.{SeqId}
use Rattle.handle_table.specs.declared.thing.Thing.{Thing}
use Rattle.handle_table.specs.declared.thing.Thing.TheVariants.{End, Token}
use Rattle.wire_encoder.specs.declared.endpoint.EndpointSide.{EndpointSide}
use Rattle.message_pipe.specs.declared.message.Message.{Message}
use Rattle.bind_model.specs.declared.endpoint.PendingId.{PendingId}
use Rattle.bind_model.specs.declared.endpoint.ResponderId.{ResponderId}
use Rattle.bind_model.specs.declared.endpoint.Endpoint.{Endpoint}
use Rattle.bind_model.specs.declared.asked.Outgoing.{Outgoing}
use Rattle.bind_model.specs.declared.endpoint.State.TheVariants as states
use Rattle.bind_model.specs.declared.asked.Closing.TheVariants as closings
use Rattle.bind_model.specs.declared.asked.Asked.{Asked}
use Rattle.bind_model.specs.declared.asked.Asked.TheVariants.{Pipe, Join, Bind, Associate, Attach, Call, Answer, Raw, Take, Close, Notify, Pause, Data}
use Rattle.bind_model.specs.declared.asked.Asked.TheVariants.{Flow as Move, Skip}
use Rattle.bind_model.specs.declared.asked.Notice.{Notice}
use Rattle.bind_model.specs.declared.flow.Flow.{Flow}
use Rattle.bind_model.specs.declared.flow.Flow.TheVariants as to_flow
use Rattle.bind_model.specs.declared.flow.Flowed.{Flowed as FlowedType}
use Rattle.bind_model.specs.declared.flow.Flowed.TheVariants as flowed
use Rattle.bind_model.specs.declared.told.Noted.{Noted}
use Rattle.bind_model.specs.declared.told.Notified.{Notified}
use Rattle.handle_table.specs.declared.thing.TokenId.{TokenId}
use Rattle.bind_model.specs.declared.told.Got.{Got}
use Rattle.bind_model.specs.declared.told.BadWhy.{BadWhy}
use Rattle.bind_model.specs.declared.told.Why.{Why}
use Rattle.bind_model.specs.declared.told.Told.{Told}
use Rattle.bind_model.specs.declared.told.Told.TheVariants.{Made, Bound, Associated, Attached, Sent, Wrote, Taken, Dropped, Control, Bad, Closed}
use Rattle.bind_model.specs.declared.told.Told.TheVariants.{Notified as Informed, Pausing, Flowed, Skipped, No}
use Rattle.bind_model.specs.declared.event.Event.{Event}
use Rattle.handle_table.specs.Things.{has, same_end, same_token}
use Rattle.bind_model.specs.Laws.{WasDropped, WasControl}
use Rattle.bind_model.specs.Notices.{waits, first_unmet}
use Rattle.bind_model.specs.Data.{DataPipe, pipe_of, Nothing, begun, is_busy, data_held, data_free}
use Rattle.wire_model.specs.HeaderMarks.{CONTROL_ID}
use Rattle.bind_model.specs.Wire.{Wire, Header, Content}
use Rattle.bind_model.specs.Machine.{peer, is_gone, out, is_local, endpoint_at, unread, is_closed, first_strange, goes_with, goes_behind}
use Rattle.bind_model.specs.Replies.{is_response, is_asked, has_pending, pendings_out, same_responder, responders_out, first_of, unless, all_out, all_pending}
use Rattle.bind_model.specs.Replies.{elsewhere, is_receiver, is_full, serials, tokens, next_id, request_of, ids_of, got, from_id, is_flush, told_of}
use Rattle.bind_model.specs.Replies.{is_right_size, space_in, view_in, least_of, busy}

-- ## The first test that fails

abbrev pub Passes : List (Option Why) → Type 0
Passes [] = Unit {0}
Passes (t ∷ ts) = (t ≡ None) × Passes ts

abbrev pub Refused : Told → Type 0
Refused told = (why : Why) × (told ≡ No why)

pub first_cases : (tests : List (Option Why)) (done told : Told) → told ≡ first_of tests done → Refused told ⊎ (Passes tests × (told ≡ done))
first_cases [] done told h = inr (tt, h)
first_cases (None ∷ ts) done told h = elim (first_cases ts done told h) [
  | inl r ↦ inl r
  | inr p ↦ inr ((refl, p.0), p.1)
]
first_cases (Some why ∷ ts) done told h = inl (why, h)

pub held : (b : Bool) (why : Why) → unless b why ≡ None → b ≡ true
held true why h = refl
held false why h = cc

pub is_true : (b : Bool) → not b ≡ true → b ≡ false
is_true true h = cc
is_true false h = refl

pub left_true : (a b : Bool) → (a && b) ≡ true → a ≡ true
left_true true b h = refl
left_true false b h = cc

pub right_true : (a b : Bool) → (a && b) ≡ true → b ≡ true
right_true true b h = h
right_true false b h = cc

pub left_false : (a b : Bool) → (a || b) ≡ false → a ≡ false
left_false true b h = cc
left_false false b h = refl

pub right_false : (a b : Bool) → (a || b) ≡ false → b ≡ false
right_false true b h = cc
right_false false b h = h

pub there : {A : Type 0} (o : Option A) → is_some o ≡ true → (a : A) × (o ≡ Some a)
there None h = absurd cc
there (Some a) h = (a, refl)

-- ## The cases

-- what is known where a message is written at y
pub record Writes (wire : Wire) (past : List Event) (y : EndId) (handles : List Thing) : Type 0 where
  pub own : all_out past handles ≡ true
  pub apart : has handles (End (peer past y)) ≡ false
  pub still : busy past handles ≡ None
  pub open_there : is_gone past (peer past y) ≡ false
  pub room : is_full wire past (peer past y) ≡ false

-- the oldest unread message of a bound end that is open
pub record Fronts (wire : Wire) (past : List Event) (y : EndId) (m : Message) : Type 0 where
  pub main : Endpoint
  pub rest : List Message
  pub bound : endpoint_at wire past y 0 ≡ Some main
  pub open_here : is_gone past y ≡ false
  pub stands : unread wire past y ≡ m ∷ rest
  pub unpaused : first_unmet past (waits past y) ≡ None

-- an endpoint that is open, on the sequence that asks
pub record Open (wire : Wire) (past : List Event) (seq : SeqId) (y : EndId) (id : ℕ) (r : Endpoint) : Type 0 where
  pub here : endpoint_at wire past y id ≡ Some r
  pub open_here : is_gone past y ≡ false
  pub not_shut : is_closed r ≡ false

-- what a got message was
pub record Gets (wire : Wire) (past : List Event) (seq : SeqId) (y : EndId) (m : Message) (h : Header) (r : Endpoint) (c : Content) : Type 0 where
  pub front : Fronts wire past y m
  pub header : wire.header m.bytes ≡ Ok h
  pub plain : (h.id == CONTROL_ID) ≡ false
  pub at : endpoint_at wire past y h.id ≡ Some r
  pub state : r.state ≡ states.Bound seq
  pub stands : wire.stands r.side r.interface m.bytes (length m.handles) ≡ Ok c
  pub awaited : is_response c.target.side ≡ true → (r.peer_closed ≡ false) × (is_asked past y h.id c.request c.target.method ≡ true)
  pub known : first_strange (endpoint_at wire past y) [] h.ids ≡ None

-- what asks for a new pipe with an end of sequence t
abbrev pub AsksJoin : Asked → ℕ → ℕ → Type 0
AsksJoin Pipe s t = t ≡ s
AsksJoin (Join u) s t = t ≡ u.0
AsksJoin asked s t = ⊥

-- what is known where bytes are moved at a token
abbrev pub Flows : List Event → TokenId → DataPipe → Flow → FlowedType → Type 0
Flows past t d (to_flow.Put bytes all) (flowed.Put n) =
    (same_token d.producer t ≡ true) × (begun past t ≡ Nothing) × (n ≡ least_of (length bytes) (data_free past d))
Flows past t d (to_flow.Get n all) (flowed.Bytes bytes) =
    (same_token d.consumer t ≡ true) × (begun past t ≡ Nothing) × (bytes ≡ take n (data_held past d))
Flows past t d to_flow.BeginPut (flowed.Space n) = (same_token d.producer t ≡ true) × (begun past t ≡ Nothing) × (n ≡ data_free past d)
Flows past t d (to_flow.EndPut bytes) (flowed.Put n) =
    (same_token d.producer t ≡ true) × (is_busy (begun past t) ≡ true) × (n ≡ length bytes) × (nat_le (length bytes) (space_in (begun past t)) ≡ true)
Flows past t d to_flow.BeginGet (flowed.View bytes) = (same_token d.consumer t ≡ true) × (begun past t ≡ Nothing) × (bytes ≡ data_held past d)
Flows past t d (to_flow.EndGet n) flowed.Ended =
    (same_token d.consumer t ≡ true) × (is_busy (begun past t) ≡ true) × (nat_le n (view_in (begun past t)) ≡ true)
Flows past t d f told = ⊥

pub data Outcome (wire : Wire) (seqs : ℕ) (past : List Event) (seq : SeqId) : Asked → Told → Type 0 where
  joins : {asked : Asked} {a b : EndId} (t : ℕ) → AsksJoin asked seq.0 t → a ≡ record { seq = seq.0; serial = serials past seq.0 }
      → b ≡ record { seq = t; serial = serials past t + (if t == seq.0 then 1 else 0) } → Outcome wire seqs past seq asked (Made (End a ∷ End b ∷ []))
  mints : {asked : Asked} → Outcome wire seqs past seq asked (Made (Token (record { seq = seq.0; serial = tokens past seq.0 }) ∷ []))
  binds : {x : EndId} {side : EndpointSide} {interface : ℕ} → has (out past) (End x) ≡ true → Outcome wire seqs past seq (Bind (End x) side interface) (Bound x)
  associates : {y : EndId} {side : EndpointSide} {interface : ℕ} {p : PendingId} (main : Endpoint) → endpoint_at wire past y 0 ≡ Some main
      → is_gone past y ≡ false → p ≡ record { end = y; id = next_id wire past y } → Outcome wire seqs past seq (Associate y side interface) (Associated p)
  attaches : {p : PendingId} {t : SeqId} {n : ℕ} → has_pending (pendings_out past) p ≡ true → is_gone past p.end ≡ false → is_local past p ≡ false → n ≡ p.id
      → Outcome wire seqs past seq (Attach p t) (Attached n)
  calls : {y : EndId} {id : ℕ} {s : Outgoing} {request : ℕ} {bytes : List ℕ} (r : Endpoint) → Open wire past seq y id r → all_pending past s.pendings ≡ true
      → r.peer_closed ≡ false → request ≡ request_of wire past y id s.target → Writes wire past y s.handles
      → bytes ≡ wire.sealed s.target s.parameters (record { id = id; request = request; ids = ids_of s.pendings; moment = s.moment })
      → Outcome wire seqs past seq (Call y id s) (Sent request bytes)
  answers : {q : ResponderId} {s : Outgoing} {request : ℕ} {bytes : List ℕ} (r : Endpoint) → Open wire past seq q.end q.id r
      → list_any (λ p. same_responder p q) (responders_out wire past) ≡ true → all_pending past s.pendings ≡ true → request ≡ q.request
      → Writes wire past q.end s.handles
      → bytes ≡ wire.sealed s.target s.parameters (record { id = q.id; request = request; ids = ids_of s.pendings; moment = s.moment })
      → Outcome wire seqs past seq (Answer q s) (Sent request bytes)
  writes : {x : EndId} {bytes : List ℕ} {handles : List Thing} → has (out past) (End x) ≡ true → Writes wire past x handles
      → Outcome wire seqs past seq (Raw (End x) bytes handles) (Wrote x)
  gets : {y : EndId} (m : Message) (h : Header) (r : Endpoint) (c : Content) → Gets wire past seq y m h r c → {g : Got} → Taken g ≡ got wire past y m h c
      → Outcome wire seqs past seq (Take y) (Taken g)
  drops : {y : EndId} {id : ℕ} {goes : List Thing} (m : Message) → Fronts wire past y m → goes ≡ goes_behind wire past y m.handles
      → WasDropped wire past y id m → Outcome wire seqs past seq (Take y) (Dropped id goes)
  controls : {y : EndId} {c : Noted} (m : Message) → Fronts wire past y m → m.handles ≡ [] → WasControl wire past y c m
      → Outcome wire seqs past seq (Take y) (Control c)
  spoils : {y : EndId} {why : BadWhy} {goes : List Thing} (m : Message) → Fronts wire past y m → goes ≡ goes_with wire past (End y ∷ [])
      → Outcome wire seqs past seq (Take y) (Bad why goes)
  closes : {x : Thing} {goes : List Thing} → has (out past) x ≡ true → goes ≡ goes_with wire past (x ∷ [])
      → Outcome wire seqs past seq (Close (closings.Handle x)) (Closed goes)
  closes_pending : {p : PendingId} {goes : List Thing} → has_pending (pendings_out past) p ≡ true → goes ≡ []
      → Outcome wire seqs past seq (Close (closings.Pending p)) (Closed goes)
  closes_responder : {q : ResponderId} {goes : List Thing} → goes ≡ [] → Outcome wire seqs past seq (Close (closings.Responder q)) (Closed goes)
  closes_end : {y : EndId} {id : ℕ} {goes : List Thing} (r : Endpoint) → id ≡ 0 → Open wire past seq y id r → goes ≡ goes_with wire past (End y ∷ [])
      → Outcome wire seqs past seq (Close (closings.Endpoint y id)) (Closed goes)
  closes_endpoint : {y : EndId} {id : ℕ} {goes : List Thing} (r : Endpoint) → (id == 0) ≡ false → Open wire past seq y id r → goes ≡ []
      → Outcome wire seqs past seq (Close (closings.Endpoint y id)) (Closed goes)
  notifies : {y : EndId} {notice : Notice} {told : Notified} (r : Endpoint) → Open wire past seq y (from_id notice) r → told ≡ told_of past y notice
      → Writes wire past y [] → elsewhere seq r ≡ None → (is_flush notice || not (is_receiver r.side)) ≡ true
      → (not (is_flush notice) && r.peer_closed) ≡ false → Outcome wire seqs past seq (Notify y notice) (Informed told)
  pauses : {b a : EndId} {k : ℕ} (rb ra : Endpoint) → endpoint_at wire past b 0 ≡ Some rb → endpoint_at wire past a 0 ≡ Some ra → is_gone past b ≡ false
      → same_end b a ≡ false → Outcome wire seqs past seq (Pause b a k) Pausing
  pipes : {size : ℕ} {p q : TokenId} → is_right_size size ≡ true → p ≡ record { seq = seq.0; serial = tokens past seq.0 }
      → q ≡ record { seq = seq.0; serial = tokens past seq.0 + 1 } → Outcome wire seqs past seq (Data size) (Made (Token p ∷ Token q ∷ []))
  flows : {t : TokenId} {f : Flow} {told : FlowedType} (d : DataPipe) → has (out past) (Token t) ≡ true → pipe_of past t ≡ Some d → Flows past t d f told
      → Outcome wire seqs past seq (Move (Token t) f) (Flowed t told)
  skips : {line : ℕ} → Outcome wire seqs past seq (Skip line) Skipped
  refuses : {asked : Asked} {why : Why} → Outcome wire seqs past seq asked (No why)
