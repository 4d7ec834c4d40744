-- A run behind its lines, and at its end.
use Rattle.std.specs.Prelude.{◌≡◌, ◌++◌, List, [], None, IfOk}
use Rattle.mj_schema.specs.declared.schema.Schema.{Schema}
use Rattle.bind_core.specs.Play.{Play}
use Rattle.bind_model.specs.WireOf.{wire_of}
use Rattle.bind_model.specs.declared.event.Event.{Event}
use Rattle.callback_laws.specs.Callbacks.{callbacks}
use Rattle.call_script.specs.declared.script.Script.{Script}
use Rattle.remote_receiver.specs.declared.rest.Rest.{Rest}
use Rattle.script_run.specs.Draining.{HasDrained, IsCoreOf, past_in}
use Rattle.script_run.specs.OfScript.{DoesLines, IsPart, OfScript, next_join}
use Rattle.script_run.specs.Order.{TakeTurns}
use Rattle.script_run.specs.declared.draining.Drained.{Drained}
use Rattle.script_run.specs.declared.plain.Plain.{Plain}

-- the events of a core are those of the joins, and behind them those of the lines, in whatever turns: the takes may begin
pub record MayDrain (schema : Schema) (script : Script) (core : Play) (rests : List (Rest Plain)) : Type 0 where
  pub after_joins : List Event
  pub middle : List Event
  pub whole : past_in core ≡ middle ++ after_joins
  pub joins : IsPart (next_join script) [] after_joins
  pub lines : DoesLines (wire_of schema) script after_joins middle
  pub turns : TakeTurns (wire_of schema) script None middle
  pub drain : HasDrained core.schema script (past_in core) core rests

-- a whole run that wasn't cut off
pub record PlayedAtOnce (schema : Schema) (script : Script) (drained : Drained) : Type 0 where
  pub core : IsCoreOf schema script drained.core
  pub whole : OfScript schema script None drained.core.events
  pub notes : IfOk drained.notes (λ notes. notes ≡ callbacks script.seqs drained.core.events)
