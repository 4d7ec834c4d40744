-- What every legal history keeps.
use Rattle.std.specs.Prelude.{ℕ, zero, suc, ◌≡◌, ◌≤◌, ◌≢◌, ◌+◌, ◌++◌, ◌==◌, ◌&&◌, Bool, true, false, not, List, [], ◌∷◌, map, length, slice_get, Some, Ok}
use Rattle.std.specs.List.{list_any}
use Rattle.mj_base.specs.declared.ids.EndId.{EndId}
use Rattle.mj_base.specs.declared.ids.SeqId.{SeqId}
use Rattle.handle_table.specs.declared.thing.Thing.{Thing}
use Rattle.bind_model.specs.declared.event.Event.{Event}
use Rattle.message_pipe.specs.declared.message.Message.{Message}
use Rattle.bind_model.specs.declared.endpoint.Endpoint.{Endpoint}
use Rattle.bind_model.specs.declared.told.Got.{Got}
use Rattle.bind_model.specs.declared.endpoint.State.TheVariants as states
use Rattle.bind_model.specs.declared.asked.Asked.{Asked}
use Rattle.bind_model.specs.declared.asked.Asked.TheVariants.{Call, Take}
use Rattle.bind_model.specs.declared.told.Told.{Told}
use Rattle.bind_model.specs.declared.told.Told.TheVariants.{Sent, Taken, Dropped, Control as Heard, Bad}
use Rattle.control_bytes.specs.declared.control.Control.{Control}
use Rattle.control_bytes.specs.declared.control.Control.TheVariants as controls
use Rattle.bind_model.specs.declared.told.Noted.{Noted}
use Rattle.bind_model.specs.declared.told.Noted.TheVariants as noted
use Rattle.handle_table.specs.Things.{same_end, times}
use Rattle.wire_model.specs.HeaderMarks.{CONTROL_ID}
use Rattle.bind_model.specs.Wire.{Wire, Header, Content}
use Rattle.bind_model.specs.Machine.{made, out, gone, is_gone, held_unread, held_bound, written, endpoint_at, is_closed, unread, takes, consumed}
use Rattle.bind_model.specs.Replies.{Drawn, drawn, answered, is_response, is_asked, version_of, is_older}
use Rattle.bind_model.specs.Notices.{query_pends, Wait, waits, is_met}
use Rattle.bind_model.specs.Data.{DataPipe, pipe_of, filled, drained, data_held}
use Rattle.handle_table.specs.declared.thing.TokenId.{TokenId}

-- each thing that was made has one place: with a caller, in an unread message, bound, or gone
abbrev pub OnePlace : Wire → List Event → Type 0
OnePlace wire past =
    (z : Thing) → times z (out past) + (times z (held_unread wire past) + (times z (held_bound past) + times z (gone past))) ≡ times z (made past)

-- ## Responses

-- so many numbers, from this one on
abbrev pub up_from : ℕ → ℕ → List ℕ
up_from first zero = []
up_from first (suc n) = first ∷ up_from (suc first) n

-- whether a number stands in a list
abbrev pub has_number : List ℕ → ℕ → Bool
has_number ns n = list_any (λ k. k == n) ns

-- no number stands twice in a list
abbrev pub all_differ : List ℕ → Bool
all_differ [] = true
all_differ (n ∷ ns) = not (has_number ns n) && all_differ ns

-- a got response was asked for: a request of its number and method was sent at its endpoint, and had no response yet
abbrev pub IsAwaited : List Event → Told → Asked → Type 0
IsAwaited past (Taken g) (Take y) = is_response g.target.side ≡ true → is_asked past y g.id g.request g.target.method ≡ true
IsAwaited past told asked = Unit {0}

-- each got response was asked for
abbrev pub AllAwaited : List Event → Type 0
AllAwaited [] = Unit {0}
AllAwaited (event ∷ past) = IsAwaited past event.told event.asked × AllAwaited past

-- at each endpoint the requests have the numbers 1, 2, 3 and so on, no two responses that were got have one number, and each was asked for
pub record OwnResponses (past : List Event) : Type 0 where
  pub numbers : (x : EndId) (id : ℕ) → map (λ (d : Drawn). d.request) (drawn past x id) ≡ up_from 1 (length (drawn past x id))
  pub once : (x : EndId) (id : ℕ) → all_differ (answered past x id) ≡ true
  pub awaited : AllAwaited past

-- ## Who asked

-- whether an event sent a request of this number at an endpoint
abbrev pub sends_at : Told → Asked → EndId → ℕ → ℕ → Bool
sends_at (Sent request bytes) (Call y n outgoing) x id number = same_end y x && (n == id) && (request == number)
sends_at told asked x id number = false

-- each request of this number at an endpoint was sent by this sequence
abbrev pub SentBy : List Event → EndId → ℕ → ℕ → SeqId → Type 0
SentBy [] x id number seq = Unit {0}
SentBy (event ∷ past) x id number seq = (sends_at event.told event.asked x id number ≡ true → event.seq ≡ seq) × SentBy past x id number seq

-- a response is got by the sequence that asked for it: what is awaited was sent, and by no other sequence
abbrev pub IsOfAsker : List Event → SeqId → Told → Asked → Type 0
IsOfAsker past seq (Taken g) (Take y) = is_response g.target.side ≡ true → SentBy past y g.id g.request seq
IsOfAsker past seq told asked = Unit {0}

-- each got response is got by the sequence that asked for it
abbrev pub AllOfAskers : List Event → Type 0
AllOfAskers [] = Unit {0}
AllOfAskers (event ∷ past) = IsOfAsker past event.seq event.told event.asked × AllOfAskers past

-- ## Messages stay, and are consumed in order

-- what is written for reading at an end stays the beginning of what is written there later
abbrev pub Stays : Wire → List Event → Type 0
Stays wire past = (more : List Event) (x : EndId) → (rest : List Message) × (written wire (more ++ past) x ≡ written wire past x ++ rest)

-- a take that consumed a message at x consumed the one of this number, of all that are ever written there, and neither end nor endpoint was gone
abbrev pub ConsumesNext : Wire → List Event → EndId → Told → Asked → Type 0
ConsumesNext wire past x told asked =
    takes told asked x ≢ [] → (m : Message) × (slice_get (written wire past x) (consumed past x) ≡ Some m) × (is_gone past x ≡ false)

-- each message that is consumed at an end is the next one there
abbrev pub InOrder : Wire → List Event → Type 0
InOrder wire [] = Unit {0}
InOrder wire (event ∷ past) = ((x : EndId) → ConsumesNext wire past x event.told event.asked) × InOrder wire past

-- what is got is what its message stands for, at an endpoint that is bound on the sequence that takes
pub record StandsFor (wire : Wire) (past : List Event) (seq : SeqId) (y : EndId) (g : Got) : Type 0 where
  pub m : Message
  pub r : Endpoint
  pub c : Content
  pub front : (rest : List Message) × (unread wire past y ≡ m ∷ rest)
  pub header : (h : Header) × (wire.header m.bytes ≡ Ok h) × ((h.id == CONTROL_ID) ≡ false) × (g.id ≡ h.id)
  pub at : endpoint_at wire past y g.id ≡ Some r
  pub state : r.state ≡ states.Bound seq
  pub stands : wire.stands r.side r.interface m.bytes (length m.handles) ≡ Ok c
  pub value : (g.parameters ≡ c.parameters) × (g.target ≡ c.target) × (g.request ≡ c.request) × (g.moment ≡ c.moment)

-- a message was dropped: it is no control, and its endpoint isn't there or is closed
pub record WasDropped (wire : Wire) (past : List Event) (y : EndId) (id : ℕ) (m : Message) : Type 0 where
  pub h : Header
  pub header : wire.header m.bytes ≡ Ok h
  pub plain : (h.id == CONTROL_ID) ≡ false
  pub is : id ≡ h.id
  pub closed : (r : Endpoint) → endpoint_at wire past y h.id ≡ Some r → is_closed r ≡ true

-- the control that it was
abbrev pub heard_of : Noted → Control
heard_of (noted.Closed id) = controls.Closed id
heard_of (noted.Queried id v) = controls.Query id
heard_of (noted.Version id v) = controls.Version id v
heard_of (noted.Required id v) = controls.Require id v
heard_of (noted.Flushed k) = controls.Flush k

-- what is told of a control is right: the version of the receiver that was asked; that a query pended; that the receiver isn't too old
abbrev pub IsRight : Wire → List Event → EndId → Noted → Type 0
IsRight wire past y (noted.Closed id) = Unit {0}
IsRight wire past y (noted.Queried id v) = v ≡ version_of wire (endpoint_at wire past y id)
IsRight wire past y (noted.Version id v) = query_pends past y id (endpoint_at wire past y id) ≡ true
IsRight wire past y (noted.Required id v) = is_older (version_of wire (endpoint_at wire past y id)) v ≡ false
IsRight wire past y (noted.Flushed k) = Unit {0}

-- a control was consumed: what its bytes say is what is told
pub record WasControl (wire : Wire) (past : List Event) (y : EndId) (c : Noted) (m : Message) : Type 0 where
  pub h : Header
  pub header : wire.header m.bytes ≡ Ok h
  pub control : (h.id == CONTROL_ID) ≡ true
  pub is : wire.says m.bytes ≡ Ok (heard_of c)
  pub right : IsRight wire past y c

-- the oldest unread message at y, and what is known of it
abbrev pub OfFront : Wire → List Event → EndId → (Message → Type 0) → Type 0
OfFront wire past y holds = (m : Message) × (rest : List Message) × (unread wire past y ≡ m ∷ rest) × holds m

-- what is told of a take is what its message was
abbrev pub GotStands : Wire → List Event → SeqId → Told → Asked → Type 0
GotStands wire past seq (Taken g) (Take y) = StandsFor wire past seq y g
GotStands wire past seq (Dropped id gone) (Take y) = OfFront wire past y (WasDropped wire past y id)
GotStands wire past seq (Heard c) (Take y) = OfFront wire past y (WasControl wire past y c)
GotStands wire past seq told asked = Unit {0}

-- each take is told what its message was
abbrev pub AllStand : Wire → List Event → Type 0
AllStand wire [] = Unit {0}
AllStand wire (event ∷ past) = GotStands wire past event.seq event.told event.asked × AllStand wire past

-- ## Pauses

-- all of these waits are met
abbrev pub AllMet : List Event → List Wait → Type 0
AllMet past [] = Unit {0}
AllMet past (w ∷ ws) = (is_met past w ≡ true) × AllMet past ws

-- a take that consumes a message, or finds it bad, stands behind what each wait of its end waits for
abbrev pub IsUnpaused : List Event → Told → Asked → Type 0
IsUnpaused past (Taken g) (Take y) = AllMet past (waits past y)
IsUnpaused past (Dropped id gone) (Take y) = AllMet past (waits past y)
IsUnpaused past (Heard c) (Take y) = AllMet past (waits past y)
IsUnpaused past (Bad why gone) (Take y) = AllMet past (waits past y)
IsUnpaused past told asked = Unit {0}

-- nothing is consumed, or found bad, at an end with a wait that is not met
abbrev pub AllUnpaused : List Event → Type 0
AllUnpaused [] = Unit {0}
AllUnpaused (event ∷ past) = IsUnpaused past event.told event.asked × AllUnpaused past

-- ## Data pipes

-- of the data pipe of a token, what came out is the beginning of what went in, and the rest, which is held, is never too much
abbrev pub DataInOrder : List Event → Type 0
DataInOrder past = (t : TokenId) (d : DataPipe) → pipe_of past t ≡ Some d
    → (filled past d.producer ≡ drained past d.consumer ++ data_held past d) × (length (data_held past d) ≤ d.capacity)
