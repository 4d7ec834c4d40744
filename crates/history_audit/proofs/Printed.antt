-- What the runs of a script that was read say can be printed.
use Rattle.std.proofs.Common.{◌≤◌, ◌<◌, ℕ, List, length, reverse, arith}
use Rattle.std.proofs.lemmas.List.{length-reverse}
use Rattle.mj_base.specs.declared.limits.TheConstants.{MAX_EVENTS, MAX_FILE_BYTES}
use Rattle.mj_schema.specs.declared.schema.Schema.{Schema}
use Rattle.bind_model.specs.Replies.{Legal}
use Rattle.bind_model.specs.WireOf.{wire_of}
use Rattle.bind_model.specs.declared.event.Event.{Event}
use Rattle.call_script.specs.Script.{IsScriptOf}
use Rattle.call_script.specs.Sound.{IsScript}
use Rattle.call_script.specs.declared.script.Script.{Script}
use Rattle.history_reader.specs.Printable.{IsPrintable}
use Rattle.line_parts.specs.Schemas.{IsPrintableSchema}
use Rattle.printed_histories.specs.Runs.{run_said}
use Rattle.script_run.specs.OfScript.{InSomeOrder}
use Rattle.history_audit.specs.Audited.{ArePrintable}
use Rattle.history_audit.proofs.Runs.{few, run_begins}

-- runs in whatever order can be printed
abbrev pub AnyOrder : Type 0
AnyOrder = (schema : Schema) (bytes : List ℕ) (script : Script) (history : List Event) → IsPrintableSchema schema → IsScriptOf schema bytes script
    → Legal (wire_of schema) script.seqs history → InSomeOrder schema script history → length history ≤ MAX_EVENTS
    → IsPrintable schema (run_said script.seqs history)

-- those of a script have few enough events
pub are_printable : AnyOrder → (schema : Schema) (source : List ℕ) (script : Script) → IsPrintableSchema schema → IsScriptOf schema source script
    → IsScript schema script → script.bytes ≤ MAX_FILE_BYTES → ArePrintable schema script
are_printable law schema source script words read is short history run =
    let less : length (reverse history) < MAX_EVENTS =
    few schema script is short (reverse history) run.legal (run_begins schema script is (reverse history) run.legal run.events).0 in
    law schema source script history words read run.legal run.events (omega (arith, less, length-reverse history))
