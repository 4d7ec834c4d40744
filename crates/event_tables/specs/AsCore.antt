-- The tables of events as the state of a core that did the same, and what a step does to them.
use Rattle.std.specs.Prelude.{◌≡◌, ◌<◌, ◌++◌, List, [], ◌∷◌, length}
use Rattle.mj_base.specs.declared.ids.SeqId.{SeqId}
use Rattle.mj_base.specs.declared.limits.TheConstants.{MAX_EVENTS}
use Rattle.bind_model.specs.declared.asked.Asked.{Asked}
use Rattle.bind_model.specs.Wire.{Wire}
use Rattle.bind_model.specs.declared.event.Event.{Event}
use Rattle.core_state.specs.Agreement.{Holds, past_of, schema_of, wire_in}
use Rattle.core_state.specs.Doing.{told_to}
use Rattle.core_state.specs.declared.state.State.{State}
use Rattle.event_tables.specs.declared.tables.EventTables.{EventTables}

-- what a core keeps of the same events: the handles that it has too aren't told apart from the names of their things
abbrev pub state_of : EventTables → State
state_of t = record {
  schema = t.schema;
  seqs = t.seqs;
  log = t.log;
  pipes = t.pipes;
  endpoints = t.endpoints;
  tables = t.tables;
  rights = record { responders = t.responders; pendings = t.pendings };
}

-- the wire of their schema
abbrev pub wire_by : EventTables → Wire
wire_by t = wire_in (state_of t)

-- the events, the newest first
abbrev pub past_by : EventTables → List Event
past_by t = past_of (state_of t)

-- one event more, with the reply that the events before give, and all the rest is what the events say then
pub record StepsOn (old new : State) (seq : SeqId) (asked : Asked) : Type 0 where
  pub holds : Holds new
  pub schema : schema_of new ≡ schema_of old
  pub seqs : new.seqs ≡ old.seqs
  pub events : new.log.events ≡ old.log.events ++ record { seq = seq; asked = asked; told = told_to old seq asked } ∷ []
  pub few : length old.log.events < MAX_EVENTS

abbrev pub Steps : EventTables → EventTables → SeqId → Asked → Type 0
Steps old new seq asked = StepsOn (state_of old) (state_of new) seq asked
