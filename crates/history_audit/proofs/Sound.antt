-- The text of a run, in turns or side by side, is sound.
use Rattle.std.proofs.Common.{ℕ, List, Option, length, refl}
use Rattle.mj_schema.specs.declared.schema.Schema.{Schema}
use Rattle.bind_model.specs.Replies.{Legal}
use Rattle.bind_model.specs.WireOf.{wire_of}
use Rattle.bind_model.specs.declared.event.Event.{Event}
use Rattle.call_script.specs.declared.script.Script.{Script}
use Rattle.printed_histories.specs.Runs.{run_text}
use Rattle.script_run.specs.OfScript.{OfScript}
use Rattle.history_audit.specs.Audited.{IsSound}

pub run_sound : (schema : Schema) (script : Script) (order : Option ℕ) (history : List Event) → Legal (wire_of schema) script.seqs history
    → OfScript schema script order history → IsSound schema script (run_text schema script.seqs history) (length history)
run_sound schema script order history lawful of = record {
  history = history;
  run = record {
    legal = lawful;
    events = record { after_joins = of.after_joins; middle = of.middle; joins = of.joins; lines = of.lines; drain = of.drain };
  };
  text = refl;
  count = refl;
}
