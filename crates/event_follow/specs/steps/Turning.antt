-- One event of a sequence.
use Rattle.std.specs.Prelude.{Bool, true, false, ◌≡◌, List, ◌∷◌, length, Option, Some, None}
use Rattle.mj_base.specs.declared.ids.SeqId.{SeqId}
use Rattle.mj_schema.specs.declared.schema.Schema.{Schema}
use Rattle.bind_model.specs.Replies.{responders_handed}
use Rattle.bind_model.specs.WireOf.{wire_of}
use Rattle.bind_model.specs.declared.asked.Asked.{Asked}
use Rattle.bind_model.specs.declared.event.Event.{Event}
use Rattle.bind_model.specs.declared.told.Told.{Told}
use Rattle.call_script.specs.declared.script.AutoReply.{AutoReply}
use Rattle.call_script.specs.declared.script.Line.{Line}
use Rattle.call_script.specs.declared.script.Script.{Script}
use Rattle.event_tables.specs.AsCore.{Steps, past_by}
use Rattle.event_steps.specs.Standing.{Stands}
use Rattle.event_steps.specs.declared.machine.Machine.{Machine}
use Rattle.plain_names.specs.Held.{HasNames, named_in}
use Rattle.script_names.specs.Asking.{asked_by}
use Rattle.script_names.specs.Autos.{Due, due_for}
use Rattle.script_names.specs.Names.{named_after}
use Rattle.script_run.specs.OfScript.{next_of}
use Rattle.event_follow.specs.declared.places.Place.{Place}
use Rattle.event_follow.specs.steps.Places.{HasCome, IsOf, due_in}

-- a sequence asked this, and was told what the events before give
pub record Stepped (s : SeqId) (asked : Asked) (before after : Machine) : Type 0 where
  pub stands : Stands after
  pub steps : Steps before.tables after.tables s asked

-- so there is one event more
pub record Did (schema : Schema) (script : Script) (s : SeqId) (asked : Asked) (before after : Machine) : Type 0 where
  pub is : IsOf schema script after
  pub told : Told
  pub past : past_by after.tables ≡ record { seq = s; asked = asked; told = told } ∷ past_by before.tables

-- what is due directly after an event
abbrev pub due_after : Schema → List AutoReply → Event → Option Due
due_after schema autos event = due_for autos event.seq (responders_handed (wire_of schema) event.told event.asked)

-- the names changed by what the event of a line brought, and the automatic reply that is due then is noted
pub record SettledAs (schema : Schema) (autos : List AutoReply) (line : Line) (event : Event) (old new : Place) : Type 0 where
  pub named : named_in new.names ≡ named_after (wire_of schema) (Some line) (due_after schema autos event) event (named_in old.names)
  pub names : HasNames (length old.names.stands.things.items) new.names
  pub due : due_in new.due ≡ due_after schema autos event
  pub lines : new.lines ≡ old.lines
  pub done : new.done ≡ old.done

-- a line was done
pub record DidLine (schema : Schema) (script : Script) (line : Line) (before after : Machine) (old new : Place) : Type 0 where
  pub did : Did schema script line.seq (asked_by (named_in old.names) line) before after
  pub settled : SettledAs schema script.autos line
      (record { seq = line.seq; asked = asked_by (named_in old.names) line; told = did.told }) old new

-- of a sequence that had done these events, by where it is
module _ (schema : Schema) (script : Script) (after_joins : List Event) (s : SeqId) (own : List Event) (before after : Machine) (place : Place) where
  -- it did what was next for it
  pub record DidNext : Type 0 where
    pub asked : Asked
    pub asks : next_of (wire_of schema) script after_joins s own ≡ Some asked
    pub did : Did schema script s asked before after
    pub come : HasCome schema script after_joins s (record { seq = s; asked = asked; told = did.told } ∷ own) place

  -- nothing was next for it
  pub record DidNothing : Type 0 where
    pub none : next_of (wire_of schema) script after_joins s own ≡ None
    pub same : after ≡ before
    pub come : HasCome schema script after_joins s own place

  abbrev pub DidAny : Bool → Type 0
  DidAny true = DidNext
  DidAny false = DidNothing
