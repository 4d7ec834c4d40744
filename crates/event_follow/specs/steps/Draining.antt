-- The takes behind the lines.
use Rattle.std.specs.Prelude.{◌≡◌, ◌++◌, List, ◌∷◌, Option, Some, None}
use Rattle.mj_base.specs.declared.ids.EndId.{EndId}
use Rattle.mj_base.specs.declared.ids.SeqId.{SeqId}
use Rattle.mj_schema.specs.declared.schema.Schema.{Schema}
use Rattle.bind_model.specs.WireOf.{wire_of}
use Rattle.bind_model.specs.declared.asked.Asked.TheVariants as asks
use Rattle.bind_model.specs.declared.event.Event.{Event}
use Rattle.bind_model.specs.declared.told.Told.{Told}
use Rattle.call_script.specs.declared.script.Script.{Script}
use Rattle.event_tables.specs.AsCore.{past_by}
use Rattle.event_steps.specs.declared.machine.Machine.{Machine}
use Rattle.script_names.specs.Autos.{Due, due}
use Rattle.script_run.specs.OfScript.{GoesOn, IsPart, next_take, replied}
use Rattle.event_follow.specs.steps.Places.{IsOf}

-- the event of a take
abbrev pub take_event : SeqId → EndId → Told → Event
take_event seq end told = record { seq = seq; asked = asks.Take end; told = told }

-- behind an event came the automatic reply that was due, or nothing
abbrev pub IsAnswered : SeqId → Option Due → List Event → List Event → Type 0
IsAnswered seq None past after = after ≡ past
IsAnswered seq (Some d) past after = (told : Told) × (after ≡ record { seq = seq; asked = replied d; told = told } ∷ past)

-- a sequence took at an end, and answered with what was due
pub record TookTurn (schema : Schema) (script : Script) (seq : SeqId) (end : EndId) (before after : Machine) : Type 0 where
  pub is : IsOf schema script after
  pub told : Told
  pub answered : IsAnswered seq (due (wire_of schema) script.autos (take_event seq end told ∷ past_by before.tables))
      (take_event seq end told ∷ past_by before.tables) (past_by after.tables)

-- after some takes
pub record HasDrained (schema : Schema) (script : Script) (before : List Event) (machine : Machine) : Type 0 where
  pub is : IsOf schema script machine
  pub own : List Event
  pub whole : past_by machine.tables ≡ own ++ before
  pub asks : GoesOn (next_take (wire_of schema) script.autos before) own
  pub none : due (wire_of schema) script.autos (own ++ before) ≡ None

-- after all
pub record DrainedAll (schema : Schema) (script : Script) (before : List Event) (machine : Machine) : Type 0 where
  pub is : IsOf schema script machine
  pub part : IsPart (next_take (wire_of schema) script.autos before) before (past_by machine.tables)
