-- A run that follows events: behind its lines, and at its end.
use Rattle.std.specs.Prelude.{Bool, true, ◌≡◌, List, [], drop, length, IfNone, IfOk}
use Rattle.mj_schema.specs.declared.schema.Schema.{Schema}
use Rattle.bind_core.specs.Play.{Play}
use Rattle.bind_model.specs.declared.event.Event.{Event}
use Rattle.callback_laws.specs.Callbacks.{callbacks}
use Rattle.call_script.specs.declared.script.Script.{Script}
use Rattle.remote_receiver.specs.declared.rest.Rest.{Rest}
use Rattle.script_run.specs.Draining.{IsCoreOf}
use Rattle.script_run.specs.Followed.{Follows}
use Rattle.script_run.specs.OfScript.{IsPart, next_join}
use Rattle.script_run.specs.declared.draining.Drained.{Drained}
use Rattle.script_run.specs.declared.plain.Plain.{Plain}
use Rattle.script_run.specs.steps.Following.{HaveFollowed}

-- the joins were done, and the events behind them followed
pub record Traced (schema : Schema) (script : Script) (events : List Event) (play : Play) (desks : List (Rest Plain)) (whole : Bool) : Type 0 where
  pub after_joins : List Event
  pub joined : IsPart (next_join script) [] after_joins
  pub followed : HaveFollowed schema script after_joins (drop (length after_joins) events) play desks whole

-- and where nothing is next for any sequence, the drain came
pub record TracedAll (schema : Schema) (script : Script) (events : List Event) (drained : Drained) (whole : Bool) : Type 0 where
  pub core : IsCoreOf schema script drained.core
  pub follows : Follows schema script events drained.core.events whole
  pub notes : whole ≡ true → IfOk drained.notes (λ notes. notes ≡ callbacks script.seqs drained.core.events)

-- so it is, where it wasn't cut off
abbrev pub TracedOf : Schema → Script → List Event → Drained → Bool → Type 0
TracedOf schema script events drained whole = IfNone drained.cut (TracedAll schema script events drained whole)
