-- Where sequences are in their lines, and the machine of their script.
use Rattle.std.specs.Prelude.{ℕ, Bool, ◌≡◌, ◌||◌, nat_lt, List, length, map, Option, Some, None, is_some, slice_get}
use Rattle.mj_base.specs.declared.ids.SeqId.{SeqId}
use Rattle.mj_schema.specs.declared.schema.Schema.{Schema}
use Rattle.bind_model.specs.WireOf.{wire_of}
use Rattle.bind_model.specs.declared.event.Event.{Event}
use Rattle.call_script.specs.declared.script.Line.{Line}
use Rattle.call_script.specs.declared.script.Script.{Script}
use Rattle.core_state.specs.Agreement.{schema_of}
use Rattle.event_tables.specs.AsCore.{state_of}
use Rattle.event_steps.specs.Standing.{Stands}
use Rattle.event_steps.specs.declared.machine.Machine.{Machine}
use Rattle.plain_names.specs.Held.{HasNames, IsUnnamed, named_in}
use Rattle.script_names.specs.Autos.{Due, due, lines_done}
use Rattle.script_run.specs.OfScript.{names_of}
use Rattle.script_run.specs.Order.{lines_of}
use Rattle.event_follow.specs.declared.places.DueReply.{DueReply}
use Rattle.event_follow.specs.declared.places.Place.{Place}

-- the automatic reply that is due
abbrev pub due_in : Option DueReply → Option Due
due_in None = None
due_in (Some d) = Some (d.responder, d.reply.now)

-- the lines of a place
abbrev pub planned : Place → List Line
planned place = map (λ line. line.now) place.lines.items

-- whether anything is left of it
abbrev pub has_next : Place → Bool
has_next place = is_some place.due || nat_lt place.done (length place.lines.items)

-- it has the lines of the sequence of this number, names that stand for nothing, and nothing was done
pub record IsFresh (script : Script) (n : ℕ) (place : Place) : Type 0 where
  pub names : IsUnnamed script.names place.names
  pub lines : planned place ≡ lines_of script (record { 0 = n })
  pub done : place.done ≡ 0
  pub due : place.due ≡ None

-- each sequence has one
pub record AreFresh (script : Script) (places : List Place) : Type 0 where
  pub count : length places ≡ script.seqs
  pub each : (n : ℕ) (place : Place) → slice_get places n ≡ Some place → IsFresh script n place

-- a sequence has done these events of its own, the newest first: it has the names that they give, and its place is what they leave
pub record HasCome (schema : Schema) (script : Script) (after_joins : List Event) (s : SeqId) (own : List Event) (place : Place) : Type 0 where
  pub names : HasNames script.names place.names
  pub named : named_in place.names ≡ names_of (wire_of schema) script after_joins s own
  pub lines : planned place ≡ lines_of script s
  pub done : place.done ≡ lines_done (wire_of schema) script.autos own
  pub due : due_in place.due ≡ due (wire_of schema) script.autos own

-- a machine of a script's sequences
pub record IsOf (of : Schema) (script : Script) (machine : Machine) : Type 0 where
  pub stands : Stands machine
  pub schema : schema_of (state_of machine.tables) ≡ of
  pub seqs : machine.tables.seqs ≡ script.seqs
