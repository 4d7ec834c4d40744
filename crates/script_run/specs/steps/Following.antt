-- Lines that are done one event at a time, in whatever order their sequences come.
use Rattle.std.specs.Prelude.{ℕ, Bool, true, false, ◌≡◌, ◌≤◌, ◌<◌, ◌++◌, ◌||◌, nat_lt, List, [], ◌∷◌, length, map, reverse, take}
use Rattle.std.specs.Prelude.{Option, Some, None, is_some, slice_get}
use Rattle.std.specs.Option.{option_copied}
use Rattle.mj_base.specs.declared.ids.SeqId.{SeqId}
use Rattle.mj_base.specs.declared.limits.TheConstants.{MAX_EVENTS}
use Rattle.mj_schema.specs.declared.schema.Schema.{Schema}
use Rattle.bind_core.specs.Play.{Play}
use Rattle.bind_model.specs.Replies.{Legal}
use Rattle.bind_model.specs.Seen.{own_of}
use Rattle.bind_model.specs.WireOf.{wire_of}
use Rattle.bind_model.specs.declared.asked.Asked.{Asked}
use Rattle.bind_model.specs.declared.endpoint.ResponderId.{ResponderId}
use Rattle.bind_model.specs.declared.event.Event.{Event}
use Rattle.bind_model.specs.declared.told.Told.{Told}
use Rattle.call_script.specs.declared.script.AutoReply.{AutoReply}
use Rattle.call_script.specs.declared.script.Line.{Line}
use Rattle.call_script.specs.declared.script.Script.{Script}
use Rattle.remote_receiver.specs.declared.rest.Rest.{Rest}
use Rattle.script_names.specs.Asking.{asked_by}
use Rattle.script_names.specs.Autos.{Due, due, lines_done}
use Rattle.script_names.specs.Held.{HaveNames, names_in}
use Rattle.script_names.specs.Names.{Named, named_after}
use Rattle.script_names.specs.Settling.{EndsWith}
use Rattle.script_names.specs.declared.rooms.Rooms.{Rooms}
use Rattle.script_run.specs.Draining.{HaveRested, IsCoreOf, past_in}
use Rattle.script_run.specs.Followed.{asker}
use Rattle.script_run.specs.OfScript.{AsksNext, GoesOn, names_of, next_join, next_of}
use Rattle.script_run.specs.Order.{lines_of}
use Rattle.script_run.specs.declared.agenda.Agenda.{Agenda}
use Rattle.script_run.specs.declared.plain.Plain.{Plain}
use Rattle.script_run.specs.steps.Desks.{due_by, reply_of}
use Rattle.script_run.specs.steps.Orders.{numbered}

-- ## What a sequence has to do

-- the lines of an agenda
abbrev pub planned : Agenda → List Line
planned agenda = map (λ line. line.now) agenda.lines.items

-- whether anything is left of it
abbrev pub has_next : Agenda → Bool
has_next agenda = is_some agenda.due || nat_lt agenda.done (length agenda.lines.items)

-- it has the lines of the sequence of this number, and nothing was done
pub record IsFresh (script : Script) (n : ℕ) (agenda : Agenda) : Type 0 where
  pub lines : planned agenda ≡ lines_of script (numbered n)
  pub done : agenda.done ≡ 0
  pub due : agenda.due ≡ None

-- each sequence has one
pub record AreFresh (script : Script) (agendas : List Agenda) : Type 0 where
  pub count : length agendas ≡ script.seqs
  pub each : (n : ℕ) (agenda : Agenda) → slice_get agendas n ≡ Some agenda → IsFresh script n agenda

-- a sequence has done these events of its own, the newest first: it has the names that they give, and its agenda what they leave; a responder
-- that is to be answered by itself is the last of those without a name
pub record HasCome (schema : Schema) (script : Script) (after_joins : List Event) (s : SeqId) (own : List Event) (room : Rooms) (agenda : Agenda)
    : Type 0 where
  pub names : HaveNames script.names room
  pub named : names_in room ≡ names_of (wire_of schema) script after_joins s own
  pub lines : planned agenda ≡ lines_of script s
  pub done : agenda.done ≡ lines_done (wire_of schema) script.autos own
  pub last : (d : Due) → due (wire_of schema) script.autos own ≡ Some d → EndsWith d.0 room.responders.others.items
  pub due : option_copied agenda.due ≡ reply_of (due (wire_of schema) script.autos own)

-- ## One event

-- a sequence asked this, in a history that is legal, and the desks have rested again
pub record DidOne (s : SeqId) (asked : Asked) (before after : Play) (desks : List (Rest Plain)) : Type 0 where
  pub schema : after.schema ≡ before.schema
  pub seqs : after.seqs ≡ before.seqs
  pub told : Told
  pub event : after.events ≡ before.events ++ record { seq = s; asked = asked; told = told } ∷ []
  pub legal : Legal (wire_of after.schema) after.seqs after.events
  pub few : length after.events ≤ MAX_EVENTS
  pub rests : HaveRested after desks

-- it asked what a line asks, and its names changed by what it was told; the automatic reply that is due then wasn't sent yet
pub record DidAlone (autos : List AutoReply) (line : Line) (reply : Option AutoReply) (before after : Play) (desks : List (Rest Plain))
    (names names' : Named) (others : List ResponderId) : Type 0 where
  pub did : DidOne line.seq (asked_by names line) before after desks
  pub named : names' ≡ named_after (wire_of before.schema) (Some line) (due_by before.schema autos line.seq (asked_by names line) did.told)
      (record { seq = line.seq; asked = asked_by names line; told = did.told }) names
  pub found : reply ≡ reply_of (due_by before.schema autos line.seq (asked_by names line) did.told)
  pub last : (d : Due) → due_by before.schema autos line.seq (asked_by names line) did.told ≡ Some d → EndsWith d.0 others

-- of a sequence that had done these events, by where it was and where it is
module _ (schema : Schema) (script : Script) (after_joins : List Event) (s : SeqId) (own : List Event) (before after : Play) (desks : List (Rest Plain))
    (room : Rooms) (agenda : Agenda) where
  -- it did what was next for it
  pub record DidNext : Type 0 where
    pub asked : Asked
    pub asks : next_of (wire_of schema) script after_joins s own ≡ Some asked
    pub did : DidOne s asked before after desks
    pub come : HasCome schema script after_joins s (record { seq = s; asked = asked; told = did.told } ∷ own) room agenda

  -- nothing was next for it
  pub record DidNothing : Type 0 where
    pub none : next_of (wire_of schema) script after_joins s own ≡ None
    pub core : after ≡ before
    pub rests : HaveRested after desks
    pub come : HasCome schema script after_joins s own room agenda

  -- what it did, by whether anything was next for it
  abbrev pub DidAny : Bool → Type 0
  DidAny true = DidNext
  DidAny false = DidNothing

-- ## All sequences

-- behind the joins and some events of the sequences
pub record IsAmid (schema : Schema) (script : Script) (after_joins middle : List Event) (play : Play) (desks : List (Rest Plain)) (held : List Rooms)
    (agendas : List Agenda) : Type 0 where
  pub core : IsCoreOf schema script play
  pub rests : HaveRested play desks
  pub joins : GoesOn (next_join script) after_joins
  pub whole : past_in play ≡ middle ++ after_joins
  pub asks : (s : SeqId) → s.0 < script.seqs → AsksNext (next_of (wire_of schema) script after_joins s) (own_of s middle)
  pub rooms : length held ≡ script.seqs
  pub plans : length agendas ≡ script.seqs
  pub each : (s : SeqId) (room : Rooms) (agenda : Agenda) → slice_get held s.0 ≡ Some room → slice_get agendas s.0 ≡ Some agenda
      → HasCome schema script after_joins s (own_of s middle) room agenda

-- behind these events, by where the sequences are
module _ (schema : Schema) (script : Script) (after_joins middle : List Event) (play : Play) (desks : List (Rest Plain)) (held : List Rooms)
    (agendas : List Agenda) where
  -- one more came, of this sequence
  pub record OneMore (seq : SeqId) : Type 0 where
    pub event : Event
    pub mine : event.seq ≡ seq
    pub amid : IsAmid schema script after_joins (event ∷ middle) play desks held agendas

  -- nothing is next for this sequence, if it is there
  pub record NoneMore (seq : SeqId) : Type 0 where
    pub none : seq.0 < script.seqs → next_of (wire_of schema) script after_joins seq (own_of seq middle) ≡ None
    pub amid : IsAmid schema script after_joins middle play desks held agendas

  -- what came of this sequence, by whether anything did
  abbrev pub AnyMore : SeqId → Bool → Type 0
  AnyMore seq true = OneMore seq
  AnyMore seq false = NoneMore seq

-- in the order of these events
module _ (schema : Schema) (script : Script) (after_joins events : List Event) (play : Play) (desks : List (Rest Plain)) (held : List Rooms)
    (agendas : List Agenda) where
  -- one came for each
  pub record AreAlong : Type 0 where
    pub middle : List Event
    pub amid : IsAmid schema script after_joins middle play desks held agendas
    pub along : map asker (reverse middle) ≡ map asker events

  -- one came for each of the first, and nothing is next for the sequence of the one that would come next, if there is one
  pub record HaveStopped : Type 0 where
    pub middle : List Event
    pub amid : IsAmid schema script after_joins middle play desks held agendas
    pub along : map asker (reverse middle) ≡ map asker (take (length middle) events)
    pub stops : (event : Event) → slice_get events (length middle) ≡ Some event → event.seq.0 < script.seqs
        → next_of (wire_of schema) script after_joins event.seq (own_of event.seq middle) ≡ None

-- something is next for a sequence
pub record IsLeft (schema : Schema) (script : Script) (after_joins middle : List Event) : Type 0 where
  pub seq : SeqId
  pub there : seq.0 < script.seqs
  pub left : next_of (wire_of schema) script after_joins seq (own_of seq middle) ≡ None → ⊥

-- whether nothing is next for any
abbrev pub TellsDone : Schema → Script → List Event → List Event → Bool → Type 0
TellsDone schema script after_joins middle true =
    (s : SeqId) → s.0 < script.seqs → next_of (wire_of schema) script after_joins s (own_of s middle) ≡ None
TellsDone schema script after_joins middle false = IsLeft schema script after_joins middle

-- the events were followed as far as anything was next, and whether nothing is next for any sequence
pub record HaveFollowed (schema : Schema) (script : Script) (after_joins events : List Event) (play : Play) (desks : List (Rest Plain)) (whole : Bool)
    : Type 0 where
  pub core : IsCoreOf schema script play
  pub rests : HaveRested play desks
  pub joins : GoesOn (next_join script) after_joins
  pub middle : List Event
  pub whole_is : past_in play ≡ middle ++ after_joins
  pub asks : (s : SeqId) → s.0 < script.seqs → AsksNext (next_of (wire_of schema) script after_joins s) (own_of s middle)
  pub along : map asker (reverse middle) ≡ map asker (take (length middle) events)
  pub stops : (event : Event) → slice_get events (length middle) ≡ Some event → event.seq.0 < script.seqs
      → next_of (wire_of schema) script after_joins event.seq (own_of event.seq middle) ≡ None
  pub tells : TellsDone schema script after_joins middle whole
