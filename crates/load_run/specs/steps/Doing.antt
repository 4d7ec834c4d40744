-- What the calls of a load do to the core, and to its desks at rest.
use Rattle.std.specs.Prelude.{ℕ, Bool, true, false, ◌≡◌, ◌≤◌, ◌+◌, ◌*◌, ◌++◌, ◌⊎◌, List, [], ◌∷◌, length, Option, Some, None, IfSome}
use Rattle.std.specs.List.{AllByRecursion}
use Rattle.mj_base.specs.declared.ids.SeqId.{SeqId}
use Rattle.mj_schema.specs.declared.schema.Schema.{Schema}
use Rattle.handle_table.specs.declared.thing.Thing.{Thing}
use Rattle.handle_table.specs.declared.thing.Thing.TheVariants.{End}
use Rattle.wire_model.specs.Trees.{Tree, view}
use Rattle.wire_model.specs.declared.target.Target.{Target}
use Rattle.wire_encoder.specs.Prepared.{HasTarget, IsPrepared}
use Rattle.wire_encoder.specs.declared.endpoint.EndpointSide.{EndpointSide}
use Rattle.wire_encoder.specs.declared.prepared.Prepared.{Prepared}
use Rattle.bind_core.specs.Play.{Play}
use Rattle.bind_model.specs.Replies.{responders_handed}
use Rattle.bind_model.specs.WireOf.{wire_of}
use Rattle.bind_model.specs.declared.asked.Asked.{Asked}
use Rattle.bind_model.specs.declared.asked.Asked.TheVariants as asks
use Rattle.bind_model.specs.declared.asked.Outgoing.{Outgoing}
use Rattle.bind_model.specs.declared.commands.Refused.{Refused}
use Rattle.bind_model.specs.declared.commands.Refused.TheVariants.{Memory, Spent}
use Rattle.bind_model.specs.declared.endpoint.ResponderId.{ResponderId}
use Rattle.bind_model.specs.declared.event.Event.{Event}
use Rattle.bind_model.specs.declared.told.Told.{Told}
use Rattle.bind_model.specs.declared.told.Told.TheVariants.{Made}
use Rattle.script_names.specs.Settling.{EndsWith}
use Rattle.script_names.specs.declared.rooms.Rooms.{Rooms}
use Rattle.script_run.specs.AtDesk.{Seen}
use Rattle.script_run.specs.Draining.{HasRested}
use Rattle.script_run.specs.OfScript.{Next}
use Rattle.script_run.specs.steps.Running.{seat_of}
use Rattle.load_run.specs.Commands.{AreOf, Asks, IsAnswered, IsLoaded, SEQUENCES, caller, end_of, event_of, taker}
use Rattle.load_run.specs.Messages.{Stays}
use Rattle.load_run.specs.declared.ends.Ends.{Ends}
use Rattle.load_run.specs.declared.messages.Message.{Message}
use Rattle.load_run.specs.declared.pairs.Pair.{Pair}
use Rattle.load_run.specs.declared.pairs.Pairs.{Pairs}
use Rattle.load_run.specs.declared.seat.Seat.{Seat}
use Rattle.load_run.specs.declared.targets.Targets.{Targets}

-- ## Targets and values

-- the schema has the struct of each target that is there
pub record AreThere (schema : Schema) (targets : Targets) : Type 0 where
  pub say : IfSome targets.say (HasTarget schema)
  pub answer : IfSome targets.answer (HasTarget schema)
  pub note : IfSome targets.note (HasTarget schema)

-- what was prepared of a value for a target
pub record IsFor (schema : Schema) (found : Option Target) (value : Tree) (p : Prepared) : Type 0 where
  pub there : found ≡ Some p.target
  pub same : view p.value ≡ value
  pub prepared : IsPrepared schema p

-- or nothing was
abbrev pub IsOutgoing : Schema → Option Target → Tree → Option Prepared → Type 0
IsOutgoing schema found value None = Stays schema found value
IsOutgoing schema found value (Some p) = IsFor schema found value p

-- ## One command

-- what a seat sees
abbrev pub at_seat : Seat → Seen
at_seat seat = seat_of seat.core seat.seq

-- one event more
pub record OneMore (s : SeqId) (asked : Asked) (told : Told) (before after : Play) : Type 0 where
  pub schema : after.schema ≡ before.schema
  pub seqs : after.seqs ≡ before.seqs
  pub events : after.events ≡ before.events ++ event_of s asked told ∷ []

-- a command that came back for want of memory
abbrev pub IsUnspent : Refused → Type 0
IsUnspent (Memory command) = Unit {0}
IsUnspent (Spent command) = ⊥

-- whatever was told
abbrev pub AskedOne : SeqId → Asked → Play → Play → Type 0
AskedOne s asked before after = (told : Told) × OneMore s asked told before after

-- the right to answer, where there is one
abbrev pub handed : Option ResponderId → List ResponderId
handed None = []
handed (Some r) = r ∷ []

-- with the right to answer that it handed out
abbrev pub ToldOne : SeqId → Asked → Option ResponderId → Play → Play → Type 0
ToldOne s asked found before after =
    (told : Told) × OneMore s asked told before after × (handed found ≡ responders_handed (wire_of before.schema) told asked)

-- it is the last one that is held
abbrev pub IsLast : Rooms → Option ResponderId → Type 0
IsLast rooms None = Unit {0}
IsLast rooms (Some r) = EndsWith r rooms.responders.others.items

-- ## A pair

-- both desks of a pair have rested
pub record HasBoth (core : Play) (second : Bool) (pair : Pair) : Type 0 where
  pub caller : HasRested core (caller second) pair.caller
  pub taker : HasRested core (taker second) pair.taker

-- an event is of a sequence of this pair
abbrev pub IsOfPair : Bool → Event → Type 0
IsOfPair second event = (event.seq ≡ caller second) ⊎ (event.seq ≡ taker second)

-- the answer, and the take of it, one behind the other
pub record Answered (second : Bool) (r : ResponderId) (outgoing : Outgoing) (before after : Play) : Type 0 where
  pub between : Play
  pub answer : AskedOne (taker second) (asks.Answer r outgoing) before between
  pub heard : AskedOne (caller second) (asks.Take (end_of (caller second))) between after

-- so many events at most came of a pair, and these they are
pub record Came (second : Bool) (most : ℕ) (before after : Play) (own : List Event) : Type 0 where
  pub schema : after.schema ≡ before.schema
  pub seqs : after.seqs ≡ before.seqs
  pub events : after.events ≡ before.events ++ own
  pub few : length own ≤ most
  pub are : AllByRecursion (IsOfPair second) own

-- what came of a right to answer
abbrev pub RepliedTo : Schema → Message → ResponderId → Play → Play → Type 0
RepliedTo schema m r before after =
    (own : List Event) × Came m.is_second 2 before after own × ((rs : List ResponderId) → IsAnswered schema m (r ∷ rs) own)

-- what came of a take that handed out this right, or none
abbrev pub RepliedIf : Schema → Message → Option ResponderId → Play → Play → Type 0
RepliedIf schema m found before after =
    (own : List Event) × Came m.is_second 2 before after own × IsAnswered schema m (handed found) own

-- the take of a message, and what came of it
pub record TookAll (schema : Schema) (m : Message) (before after : Play) : Type 0 where
  pub got : Told
  pub rest : List Event
  pub came : Came m.is_second 3 before after (event_of (taker m.is_second) (asks.Take (end_of (taker m.is_second))) got ∷ rest)
  pub answered : IsAnswered schema m (responders_handed (wire_of schema) got (asks.Take (end_of (taker m.is_second)))) rest

-- a message went its way, or didn't go out
abbrev pub Went : Schema → Message → Play → Play → Type 0
Went schema m before after = (own : List Event) × Came m.is_second 4 before after own × AreOf schema m own

-- ## All pairs

-- the desks of both pairs have rested
pub record HasAll (core : Play) (pairs : Pairs) : Type 0 where
  pub first : HasBoth core false pairs.first
  pub second : HasBoth core true pairs.second

-- after so many messages: four sequences, the events of these messages, and no more than four for each behind the first six
pub record IsAfter (given : Schema) (seed n : ℕ) (core : Play) (pairs : Pairs) : Type 0 where
  pub schema : core.schema ≡ given
  pub seqs : core.seqs ≡ SEQUENCES
  pub rests : HasAll core pairs
  pub loaded : IsLoaded given seed n core.events
  pub few : length core.events ≤ 6 + 4 * n

-- ## The start

-- these were asked, one behind the other
pub record AskedAll (nexts : List Next) (before after : Play) : Type 0 where
  pub schema : after.schema ≡ before.schema
  pub seqs : after.seqs ≡ before.seqs
  pub own : List Event
  pub events : after.events ≡ before.events ++ own
  pub are : Asks nexts own

-- a pipe between two sequences, whose ends are the first of both
pub record Joined (s t : SeqId) (before after : Play) (things : List Thing) : Type 0 where
  pub one : OneMore s (asks.Join t) (Made (End (end_of s) ∷ End (end_of t) ∷ [])) before after
  pub ends : things ≡ End (end_of s) ∷ End (end_of t) ∷ []

-- the ends of both pipes
pub record HaveEnds (ends : Ends) : Type 0 where
  pub first : ends.first.items ≡ End (end_of (caller false)) ∷ End (end_of (taker false)) ∷ []
  pub second : ends.second.items ≡ End (end_of (caller true)) ∷ End (end_of (taker true)) ∷ []

-- those that aren't the callers'
pub record HaveTakers (ends : Ends) : Type 0 where
  pub first : ends.first.items ≡ End (end_of (taker false)) ∷ []
  pub second : ends.second.items ≡ End (end_of (taker true)) ∷ []

-- what is asked to make the pipes
abbrev pub joins : List Next
joins = (caller false, asks.Join (taker false)) ∷ (caller true, asks.Join (taker true)) ∷ []

-- what is asked to bind the end of one sequence of each pair as this side
abbrev pub binds : (Bool → SeqId) → EndpointSide → ℕ → List Next
binds whose side interface =
    (whose false, asks.Bind (End (end_of (whose false))) side interface)
    ∷ (whose true, asks.Bind (End (end_of (whose true))) side interface) ∷ []
