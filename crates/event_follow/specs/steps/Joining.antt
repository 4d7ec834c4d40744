-- The joins of a script.
use Rattle.std.specs.Prelude.{ℕ, ◌≡◌, ◌==◌, List, [], ◌∷◌, length, None, Some, slice_get}
use Rattle.mj_base.specs.declared.ids.SeqId.{SeqId}
use Rattle.mj_schema.specs.declared.schema.Schema.{Schema}
use Rattle.handle_table.specs.declared.thing.Thing.{Thing}
use Rattle.bind_model.specs.declared.asked.Asked.TheVariants as asks
use Rattle.bind_model.specs.declared.event.Event.{Event}
use Rattle.bind_model.specs.declared.told.Told.TheVariants as tells
use Rattle.call_script.specs.declared.script.Script.{Script}
use Rattle.core_state.specs.Doing.{told_to}
use Rattle.event_tables.specs.AsCore.{Steps, past_by, state_of}
use Rattle.event_steps.specs.Standing.{Stands}
use Rattle.event_steps.specs.declared.machine.Machine.{Machine}
use Rattle.plain_names.specs.Held.{HasNames, named_in}
use Rattle.plain_names.specs.declared.named.PlainNames.{PlainNames}
use Rattle.script_names.specs.Names.{joined}
use Rattle.script_names.specs.Tables.{filled}
use Rattle.script_run.specs.OfScript.{GoesOn, next_join}
use Rattle.script_run.specs.Order.{joins_of, lines_of}
use Rattle.script_run.specs.Rooms.{filled_if}
use Rattle.script_run.specs.declared.joins.Joint.{Joint}
use Rattle.event_follow.specs.declared.places.Place.{Place}
use Rattle.event_follow.specs.steps.Places.{IsOf, planned}

-- ## What a join gives

-- both of its ends came under their names, each held by the sequence that it is for
pub record GaveBoth (joint : Joint) (x y : Thing) (k : ℕ) (old new : PlainNames) : Type 0 where
  pub stands : new.stands.things.items ≡ filled (filled old.stands.things.items joint.second y) joint.first x
  pub handles : new.handles.items.items
      ≡ filled_if (joint.seq.0 == k) (filled_if (joint.other.0 == k) old.handles.items.items joint.second y) joint.first x
  pub pendings : new.pendings ≡ old.pendings
  pub responders : new.responders ≡ old.responders

-- so did they at the place of a sequence
pub record GaveAt (joint : Joint) (x y : Thing) (k : ℕ) (old new : Place) : Type 0 where
  pub names : GaveBoth joint x y k old.names new.names
  pub lines : new.lines ≡ old.lines
  pub done : new.done ≡ old.done
  pub due : new.due ≡ old.due

-- each of the places comes of the one at its number before
pub record ComesOf (how : ℕ → Place → Place → Type 0) (old new : List Place) : Type 0 where
  pub count : length new ≡ length old
  pub each : (k : ℕ) (after : Place) → slice_get new k ≡ Some after → (before : Place) × (slice_get old k ≡ Some before) × how k before after

-- at all places both ends came under their names
abbrev pub Come : Joint → Thing → Thing → List Place → List Place → Type 0
Come joint x y old new = ComesOf (GaveAt joint x y) old new

-- a join was asked for, and told two ends, which came under their names
pub record HasMade (joint : Joint) (before after : Machine) (old new : List Place) : Type 0 where
  pub first : Thing
  pub second : Thing
  pub stands : Stands after
  pub steps : Steps before.tables after.tables joint.seq (asks.Join joint.other)
  pub told : told_to (state_of before.tables) joint.seq (asks.Join joint.other) ≡ tells.Made (first ∷ second ∷ [])
  pub places : Come joint first second old new

-- ## The joins

-- a sequence stands before its first line, with the names that these joins give it
pub record IsBehind (script : Script) (past : List Event) (s : SeqId) (place : Place) : Type 0 where
  pub names : HasNames script.names place.names
  pub named : named_in place.names ≡ joined s (joins_of script) past
  pub lines : planned place ≡ lines_of script s
  pub done : place.done ≡ 0
  pub due : place.due ≡ None

-- after the first so many joins
pub record HasJoined (schema : Schema) (script : Script) (n : ℕ) (machine : Machine) (places : List Place) : Type 0 where
  pub is : IsOf schema script machine
  pub asks : GoesOn (next_join script) (past_by machine.tables)
  pub count : length machine.tables.log.events ≡ n
  pub size : length places ≡ script.seqs
  pub each : (s : SeqId) (place : Place) → slice_get places s.0 ≡ Some place → IsBehind script (past_by machine.tables) s place
