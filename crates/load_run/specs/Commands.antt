-- The events of a load: two pipes are made and their four ends are bound; then, for each message, the caller of its pair calls, the other
-- end takes, and where that hands out the right to answer, it answers, and the caller takes the response.
use Rattle.std.specs.Prelude.{ℕ, zero, suc, Bool, true, false, ◌≡◌, ◌++◌, ◌⊎◌, List, [], ◌∷◌, map, None}
use Rattle.mj_base.specs.declared.ids.EndId.{EndId}
use Rattle.mj_base.specs.declared.ids.SeqId.{SeqId}
use Rattle.mj_schema.specs.declared.schema.Schema.{Schema}
use Rattle.handle_table.specs.declared.thing.Thing.TheVariants.{End}
use Rattle.wire_model.specs.Trees.{Tree}
use Rattle.wire_model.specs.declared.target.Target.{Target}
use Rattle.wire_encoder.specs.declared.endpoint.EndpointSide.TheVariants.{Remote, Receiver}
use Rattle.bind_model.specs.Replies.{Legal, responders_handed}
use Rattle.bind_model.specs.WireOf.{wire_of}
use Rattle.bind_model.specs.declared.asked.Asked.{Asked}
use Rattle.bind_model.specs.declared.asked.Asked.TheVariants.{Answer, Bind, Call, Join, Take}
use Rattle.bind_model.specs.declared.asked.Outgoing.{Outgoing}
use Rattle.bind_model.specs.declared.endpoint.ResponderId.{ResponderId}
use Rattle.bind_model.specs.declared.event.Event.{Event}
use Rattle.bind_model.specs.declared.told.Told.{Told}
use Rattle.script_run.specs.OfScript.{Next}
use Rattle.script_run.specs.Order.{drawn}
use Rattle.load_run.specs.Messages.{Goes, Stays, answer_tree, message_of, request_target, request_tree, targets_in}
use Rattle.load_run.specs.declared.messages.Message.{Message}

-- ## Who

-- how many sequences there are
abbrev pub SEQUENCES : ℕ
SEQUENCES = 4

-- the sequence of a number
abbrev pub numbered : ℕ → SeqId
numbered n = record { 0 = n }

-- the sequence that calls in the first pair, or in the second
abbrev pub caller : Bool → SeqId
caller false = numbered 0
caller true = numbered 2

-- the one that takes what is called, and answers
abbrev pub taker : Bool → SeqId
taker false = numbered 1
taker true = numbered 3

-- the end of its pair's pipe that a sequence has
abbrev pub end_of : SeqId → EndId
end_of s = record { seq = s.0; serial = 0 }

-- ## What is asked

-- what goes out with a value for a target: nothing else
abbrev pub alone : Target → Tree → Outgoing
alone target value = record { target = target; parameters = value; handles = []; pendings = []; moment = None }

-- what is asked at the start, and by whom; the interface has this number
abbrev pub start : ℕ → List Next
start interface =
    (numbered 0, Join (numbered 1)) ∷ (numbered 2, Join (numbered 3))
    ∷ (numbered 0, Bind (End (end_of (numbered 0))) Remote interface) ∷ (numbered 2, Bind (End (end_of (numbered 2))) Remote interface)
    ∷ (numbered 1, Bind (End (end_of (numbered 1))) Receiver interface) ∷ (numbered 3, Bind (End (end_of (numbered 3))) Receiver interface) ∷ []

-- what an event asked, and who did
abbrev pub asked_in : Event → Next
asked_in event = (event.seq, event.asked)

-- an event
abbrev pub event_of : SeqId → Asked → Told → Event
event_of s asked told = record { seq = s; asked = asked; told = told }

-- ## The events

-- the events of one of these lists of what is asked, whatever was told
abbrev pub Asks : List Next → List Event → Type 0
Asks nexts events = map asked_in events ≡ nexts

-- what is asked with a right to answer: the answer, and the take of it; or nothing, where the answer doesn't go out
abbrev pub IsAnswered : Schema → Message → List ResponderId → List Event → Type 0
IsAnswered schema m [] events = events ≡ []
IsAnswered schema m (r ∷ rs) events =
    ((target : Target) × Goes schema (targets_in schema).answer (answer_tree m.number) target
    × Asks ((taker m.is_second, Answer r (alone target (answer_tree m.number)))
    ∷ (caller m.is_second, Take (end_of (caller m.is_second))) ∷ []) events)
    ⊎ (Stays schema (targets_in schema).answer (answer_tree m.number) × (events ≡ []))

-- the call, the take of it, and what comes of what the take was told
pub record IsCalled (schema : Schema) (m : Message) (target : Target) (events : List Event) : Type 0 where
  pub sent : Told
  pub got : Told
  pub rest : List Event
  pub whole : events
      ≡ event_of (caller m.is_second) (Call (end_of (caller m.is_second)) 0 (alone target (request_tree m))) sent
      ∷ event_of (taker m.is_second) (Take (end_of (taker m.is_second))) got ∷ rest
  pub answered : IsAnswered schema m (responders_handed (wire_of schema) got (Take (end_of (taker m.is_second)))) rest

-- the events of a message; there are none where it doesn't go out
abbrev pub AreOf : Schema → Message → List Event → Type 0
AreOf schema m events =
    ((target : Target) × Goes schema (request_target (targets_in schema) m) (request_tree m) target × IsCalled schema m target events)
    ⊎ (Stays schema (request_target (targets_in schema) m) (request_tree m) × (events ≡ []))

-- the events of a load of so many messages, in order: for each one number is drawn, behind that of the one before it
abbrev pub IsLoaded : Schema → ℕ → ℕ → List Event → Type 0
IsLoaded schema seed zero events = Asks (start (targets_in schema).interface) events
IsLoaded schema seed (suc n) events =
    (before : List Event) × (own : List Event) × (events ≡ before ++ own) × IsLoaded schema seed n before
    × AreOf schema (message_of n (drawn seed n)) own

-- a history of a load: it is legal, and so there is just one
pub record IsLoad (schema : Schema) (seed messages : ℕ) (history : List Event) : Type 0 where
  pub legal : Legal (wire_of schema) SEQUENCES history
  pub events : IsLoaded schema seed messages history
