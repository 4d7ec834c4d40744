-- A drain: the core with the desks at rest, before it and behind it.
use Rattle.std.specs.Prelude.{◌≡◌, ◌≤◌, ◌++◌, List, length, reverse, Some, None, IfNone, IfOk, slice_get}
use Rattle.mj_base.specs.declared.ids.SeqId.{SeqId}
use Rattle.mj_base.specs.declared.limits.TheConstants.{MAX_EVENTS}
use Rattle.mj_schema.specs.declared.schema.Schema.{Schema}
use Rattle.bind_core.specs.Play.{Play}
use Rattle.bind_model.specs.declared.event.Event.{Event}
use Rattle.bind_model.specs.Replies.{Legal}
use Rattle.bind_model.specs.WireOf.{wire_of}
use Rattle.callback_laws.specs.Callbacks.{callbacks}
use Rattle.call_script.specs.declared.script.Script.{Script}
use Rattle.remote_receiver.specs.Held.{kept_of}
use Rattle.remote_receiver.specs.Notes.{HasKept}
use Rattle.remote_receiver.specs.Waits.{AreDrawn}
use Rattle.remote_receiver.specs.declared.rest.Rest.{Rest}
use Rattle.script_names.specs.Autos.{due}
use Rattle.script_run.specs.OfScript.{GoesOn, IsPart, next_take}
use Rattle.script_run.specs.declared.draining.Drained.{Drained}
use Rattle.script_run.specs.declared.plain.Plain.{Plain}
use Rattle.script_run.specs.AtDesk.{AnswersZero, steps_of}
use Rattle.script_run.specs.declared.cut.Cut.{Cut}
use Rattle.script_run.specs.declared.cut.Cut.TheVariants as cuts

-- the events of a core, the newest first
abbrev pub past_in : Play → List Event
past_in core = reverse core.events

-- a core of a script's sequences, whose events are legal
pub record IsCoreOf (given : Schema) (script : Script) (core : Play) : Type 0 where
  pub schema : core.schema ≡ given
  pub seqs : core.seqs ≡ script.seqs
  pub legal : Legal (wire_of core.schema) core.seqs core.events
  pub few : length core.events ≤ MAX_EVENTS

-- what a desk keeps at rest of its sequence's callbacks among all events
pub record HasRested (core : Play) (s : SeqId) (rest : Rest Plain) : Type 0 where
  pub kept : HasKept AnswersZero (steps_of core.schema s core.events) (kept_of rest.jobs)
  pub drawn : AreDrawn core.events rest.jobs.waiting.callbacks

-- one desk for each sequence
pub record HaveRested (core : Play) (rests : List (Rest Plain)) : Type 0 where
  pub count : length rests ≡ core.seqs
  pub each : (s : SeqId) (rest : Rest Plain) → slice_get rests s.0 ≡ Some rest → HasRested core s rest

-- ## The drain

-- after some takes
pub record HasDrained (schema : Schema) (script : Script) (before : List Event) (play : Play) (desks : List (Rest Plain)) : Type 0 where
  pub core : IsCoreOf schema script play
  pub rests : HaveRested play desks
  pub own : List Event
  pub whole : past_in play ≡ own ++ before
  pub asks : GoesOn (next_take (wire_of schema) script.autos before) own
  pub none : due (wire_of schema) script.autos (own ++ before) ≡ None

-- a drain that wasn't cut off
pub record DrainedAll (schema : Schema) (script : Script) (before : List Event) (drained : Drained) : Type 0 where
  pub core : IsCoreOf schema script drained.core
  pub part : IsPart (next_take (wire_of schema) script.autos before) before (past_in drained.core)
  pub notes : IfOk drained.notes (λ notes. notes ≡ callbacks script.seqs drained.core.events)

-- it is a whole drain, where it wasn't cut off
abbrev pub DrainedOf : Schema → Script → List Event → Drained → Type 0
DrainedOf schema script before drained = IfNone drained.cut (DrainedAll schema script before drained)

-- a drain that was cut off took, and answered, as far as it came
pub record DrainedPart (given : Schema) (script : Script) (before : List Event) (core : Play) : Type 0 where
  pub schema : core.schema ≡ given
  pub seqs : core.seqs ≡ script.seqs
  pub legal : Legal (wire_of core.schema) core.seqs core.events
  pub own : List Event
  pub whole : past_in core ≡ own ++ before
  pub asks : GoesOn (next_take (wire_of given) script.autos before) own

-- a cut that isn't for the number of events
abbrev pub IsUnspent : Cut → Type 0
IsUnspent cuts.Memory = Unit {0}
IsUnspent cuts.Spent = ⊥
