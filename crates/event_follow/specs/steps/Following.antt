-- Lines that are done one event at a time, in whatever order their sequences come.
use Rattle.std.specs.Prelude.{Bool, true, false, ◌≡◌, ◌<◌, ◌++◌, List, [], ◌∷◌, drop, length, map, reverse, take, Some, None, slice_get}
use Rattle.mj_base.specs.declared.ids.SeqId.{SeqId}
use Rattle.mj_schema.specs.declared.schema.Schema.{Schema}
use Rattle.bind_model.specs.Seen.{own_of}
use Rattle.bind_model.specs.WireOf.{wire_of}
use Rattle.bind_model.specs.declared.event.Event.{Event}
use Rattle.call_script.specs.declared.script.Script.{Script}
use Rattle.event_tables.specs.AsCore.{past_by}
use Rattle.event_steps.specs.declared.machine.Machine.{Machine}
use Rattle.script_run.specs.Followed.{Follows, asker}
use Rattle.script_run.specs.OfScript.{AsksNext, GoesOn, IsPart, next_join, next_of}
use Rattle.script_run.specs.steps.Following.{TellsDone}
use Rattle.event_follow.specs.declared.places.Place.{Place}
use Rattle.event_follow.specs.steps.Places.{HasCome, IsOf}

-- behind the joins and some events of the sequences
pub record IsAmid (schema : Schema) (script : Script) (after_joins middle : List Event) (machine : Machine) (places : List Place) : Type 0 where
  pub is : IsOf schema script machine
  pub joins : GoesOn (next_join script) after_joins
  pub whole : past_by machine.tables ≡ middle ++ after_joins
  pub asks : (s : SeqId) → s.0 < script.seqs → AsksNext (next_of (wire_of schema) script after_joins s) (own_of s middle)
  pub count : length places ≡ script.seqs
  pub each : (s : SeqId) (place : Place) → slice_get places s.0 ≡ Some place → HasCome schema script after_joins s (own_of s middle) place

-- behind these events, by where the sequences are
module _ (schema : Schema) (script : Script) (after_joins middle : List Event) (machine : Machine) (places : List Place) where
  -- one more came, of this sequence
  pub record OneMore (seq : SeqId) : Type 0 where
    pub event : Event
    pub mine : event.seq ≡ seq
    pub amid : IsAmid schema script after_joins (event ∷ middle) machine places

  -- nothing is next for this sequence, if it is there
  pub record NoneMore (seq : SeqId) : Type 0 where
    pub none : seq.0 < script.seqs → next_of (wire_of schema) script after_joins seq (own_of seq middle) ≡ None
    pub amid : IsAmid schema script after_joins middle machine places

  abbrev pub AnyMore : SeqId → Bool → Type 0
  AnyMore seq true = OneMore seq
  AnyMore seq false = NoneMore seq

-- in the order of these events
module _ (schema : Schema) (script : Script) (after_joins events : List Event) (machine : Machine) (places : List Place) where
  -- one came for each
  pub record AreAlong : Type 0 where
    pub middle : List Event
    pub amid : IsAmid schema script after_joins middle machine places
    pub along : map asker (reverse middle) ≡ map asker events

  -- one came for each of the first, and nothing is next for the sequence of the one that would come next, if there is one
  pub record HaveStopped : Type 0 where
    pub middle : List Event
    pub amid : IsAmid schema script after_joins middle machine places
    pub along : map asker (reverse middle) ≡ map asker (take (length middle) events)
    pub stops : (event : Event) → slice_get events (length middle) ≡ Some event → event.seq.0 < script.seqs
        → next_of (wire_of schema) script after_joins event.seq (own_of event.seq middle) ≡ None

-- the events were followed as far as anything was next, and whether nothing is next for any sequence
pub record HaveFollowed (schema : Schema) (script : Script) (after_joins events : List Event) (machine : Machine) (whole : Bool) : Type 0 where
  pub is : IsOf schema script machine
  pub joins : GoesOn (next_join script) after_joins
  pub middle : List Event
  pub whole_is : past_by machine.tables ≡ middle ++ after_joins
  pub asks : (s : SeqId) → s.0 < script.seqs → AsksNext (next_of (wire_of schema) script after_joins s) (own_of s middle)
  pub along : map asker (reverse middle) ≡ map asker (take (length middle) events)
  pub stops : (event : Event) → slice_get events (length middle) ≡ Some event → event.seq.0 < script.seqs
      → next_of (wire_of schema) script after_joins event.seq (own_of event.seq middle) ≡ None
  pub tells : TellsDone schema script after_joins middle whole

-- the joins were done, and the events behind them followed
pub record Traced (schema : Schema) (script : Script) (events : List Event) (machine : Machine) (whole : Bool) : Type 0 where
  pub after_joins : List Event
  pub joined : IsPart (next_join script) [] after_joins
  pub followed : HaveFollowed schema script after_joins (drop (length after_joins) events) machine whole

-- and where nothing is next for any sequence, the drain came
pub record Ended (schema : Schema) (script : Script) (events : List Event) (machine : Machine) (whole : Bool) : Type 0 where
  pub is : IsOf schema script machine
  pub follows : Follows schema script events machine.tables.log.events whole
