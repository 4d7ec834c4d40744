-- A run that goes on.
use Rattle.script_run.specs.Draining.{HaveRested, IsCoreOf, past_in}
use Rattle.std.specs.Prelude.{ℕ, false, ◌≡◌, ◌<◌, ◌==◌, ◌++◌, List, length, set, take, Some, None, IfNone, IfOk, slice_get}
use Rattle.mj_base.specs.declared.ids.SeqId.{SeqId}
use Rattle.mj_schema.specs.declared.schema.Schema.{Schema}
use Rattle.bind_core.specs.Play.{Play}
use Rattle.bind_model.specs.declared.event.Event.{Event}
use Rattle.bind_model.specs.Seen.{own_of}
use Rattle.bind_model.specs.WireOf.{wire_of}
use Rattle.callback_laws.specs.Callbacks.{callbacks}
use Rattle.call_script.specs.declared.script.Line.{Line}
use Rattle.call_script.specs.declared.script.Script.{Script}
use Rattle.remote_receiver.specs.Held.{kept_of}
use Rattle.remote_receiver.specs.Notes.{Kept}
use Rattle.remote_receiver.specs.Waits.{AreDrawn}
use Rattle.remote_receiver.specs.declared.rest.Rest.{Rest}
use Rattle.script_names.specs.Autos.{due, lines_done}
use Rattle.script_names.specs.Names.{Named, joined}
use Rattle.script_run.specs.OfScript.{AsksNext, GoesOn, OfScript, names_of, next_join, next_of}
use Rattle.script_run.specs.Order.{InTurns, joins_of, turn}
use Rattle.script_run.specs.declared.draining.Drained.{Drained}
use Rattle.script_run.specs.declared.plain.Plain.{Plain}
use Rattle.script_names.specs.declared.rooms.Rooms.{Rooms}
use Rattle.script_run.specs.steps.Orders.{count_of}
use Rattle.script_names.specs.Held.{HaveNames, names_in}

-- one room for each sequence, with these names
pub record HaveRooms (seqs size : ℕ) (named : SeqId → Named) (rooms : List Rooms) : Type 0 where
  pub count : length rooms ≡ seqs
  pub names : (s : SeqId) (room : Rooms) → slice_get rooms s.0 ≡ Some room → HaveNames size room
  pub held : (s : SeqId) (room : Rooms) → slice_get rooms s.0 ≡ Some room → names_in room ≡ named s

-- ## The joins

-- after the first so many joins
pub record HasJoined (schema : Schema) (script : Script) (n : ℕ) (play : Play) (desks : List (Rest Plain)) (held : List Rooms) : Type 0 where
  pub core : IsCoreOf schema script play
  pub rests : HaveRested play desks
  pub asks : GoesOn (next_join script) (past_in play)
  pub count : length play.events ≡ n
  pub rooms : HaveRooms script.seqs script.names (λ s. joined s (joins_of script) (past_in play)) held

-- ## The lines

-- what holds of one sequence after so many lines of all
pub record IsAt (schema : Schema) (script : Script) (after_joins : List Event) (lines : List Line) (s : SeqId) (own : List Event) : Type 0 where
  pub asks : AsksNext (next_of (wire_of schema) script after_joins s) own
  pub none : due (wire_of schema) script.autos own ≡ None
  pub done : lines_done (wire_of schema) script.autos own ≡ count_of s lines

-- after the first so many lines in the order
pub record HasDone (schema : Schema) (script : Script) (order : ℕ) (after_joins : List Event) (lines : List Line) (n : ℕ)
    (play : Play) (desks : List (Rest Plain)) (held : List Rooms) : Type 0 where
  pub core : IsCoreOf schema script play
  pub rests : HaveRested play desks
  pub middle : List Event
  pub whole : past_in play ≡ middle ++ after_joins
  pub each : (s : SeqId) → s.0 < script.seqs → IsAt schema script after_joins (take n lines) s (own_of s middle)
  pub none : due (wire_of schema) script.autos middle ≡ None
  pub done : lines_done (wire_of schema) script.autos middle ≡ n
  pub turns : InTurns (turn (wire_of schema) script order) middle
  pub rooms : HaveRooms script.seqs script.names (λ s. names_of (wire_of schema) script after_joins s (own_of s middle)) held

-- ## Desks that are woken and put to rest

-- the desk of a sequence has the core, and what it kept
pub record IsWoken (s : SeqId) (play : Play) (old new : List (Rest Plain)) (at : Play) (of : SeqId) (has : Kept Plain) : Type 0 where
  pub core : at ≡ play
  pub seq : of ≡ s
  pub kept : (rest : Rest Plain) → slice_get old s.0 ≡ Some rest → has ≡ kept_of rest.jobs
  pub count : length new ≡ length old
  pub others : (t : ℕ) → (t == s.0) ≡ false → slice_get new t ≡ slice_get old t

-- what a desk kept is with the others again
pub record IsPutBack (s : SeqId) (old after : List (Rest Plain)) (had : Kept Plain) (play : Play) : Type 0 where
  pub rest : Rest Plain
  pub new : after ≡ set old s.0 rest
  pub kept : kept_of rest.jobs ≡ had
  pub drawn : AreDrawn play.events rest.jobs.waiting.callbacks

-- ## The whole

-- a whole run that wasn't cut off
pub record PlayedAll (schema : Schema) (script : Script) (order : ℕ) (drained : Drained) : Type 0 where
  pub core : IsCoreOf schema script drained.core
  pub whole : OfScript schema script (Some order) drained.core.events
  pub notes : IfOk drained.notes (λ notes. notes ≡ callbacks script.seqs drained.core.events)

-- it is a whole run, where it wasn't cut off
abbrev pub Played : Schema → Script → ℕ → Drained → Type 0
Played schema script order drained = IfNone drained.cut (PlayedAll schema script order drained)
