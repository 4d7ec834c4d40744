-- The history of a script's run can be printed, and its text says it and nothing else.
use Rattle.std.proofs.Common.{◌<◌, ◌≤◌, ℕ, ◌^◌, List, Ok, Option, length, reverse, arith}
use Rattle.std.proofs.lemmas.List.{length-reverse}
use Rattle.mj_base.specs.declared.limits.TheConstants.{MAX_EVENTS}
use Rattle.mj_schema.specs.declared.schema.Schema.{Schema}
use Rattle.bind_model.specs.Replies.{Legal}
use Rattle.bind_model.specs.WireOf.{wire_of}
use Rattle.bind_model.specs.declared.event.Event.{Event}
use Rattle.line_parts.specs.Printable.{AreAll}
use Rattle.line_parts.specs.Schemas.{IsPrintableSchema}
use Rattle.history_reader.specs.Printable.{IsPrintable}
use Rattle.history_reader.specs.Texts.{Tells}
use Rattle.history_reader.specs.Whole as texts
use Rattle.call_script.specs.Script.{IsScriptOf}
use Rattle.call_script.specs.declared.script.Script.{Script}
use Rattle.script_run.specs.OfScript.{InSomeOrder, OfScript}
use Rattle.printed_histories.specs.Asked.{BecomeBytes}
use Rattle.printed_histories.specs.Runs.{run_said, run_text}
use Rattle.printed_histories.proofs.Histories.{small_printable, text_said}
use Rattle.printed_histories.proofs.SmallFaults.{HasLowSlots}
use Rattle.printed_histories.proofs.SmallRows.{low_slots}
use Rattle.printed_histories.proofs.SmallSaid.{IsSmallEvent}
use Rattle.printed_histories.proofs.SmallWireOf.{HasSmallVersions}
use Rattle.printed_histories.proofs.ValueSent.{PassedIsEncodable}
use Rattle.printed_runs.proofs.SmallRun.{run_small}
use Rattle.printed_runs.proofs.SmallScript.{small_script}
use Rattle.printed_runs.proofs.SomeOrder.{in_some_order}
use Rattle.printed_runs.proofs.ValueScript.{legal_asks}

-- the history of a script's run in whatever order, what became of its callbacks and what it leaves
pub printable_any : PassedIsEncodable → (schema : Schema) (bytes : List ℕ) (script : Script) (history : List Event)
    → IsPrintableSchema schema → IsScriptOf schema bytes script → Legal (wire_of schema) script.seqs history → InSomeOrder schema script history
    → length history ≤ MAX_EVENTS → IsPrintable schema (run_said script.seqs history)
printable_any law schema bytes script history words read lawful of few =
    let short : length history ≤ 16777216 = few in
    let most : script.seqs ≤ 16 = read.count.1 in
    let some : script.seqs < 2 ^ 32 = omega (arith, most) in
    let back : length (reverse history) < 2 ^ 30 = omega (arith, short, length-reverse history) in
    let low : HasLowSlots schema × HasSmallVersions schema = (low_slots schema, words.versions) in
    let small : AreAll (IsSmallEvent (BecomeBytes schema)) (reverse history) =
    run_small schema low script (small_script schema bytes script read) some (reverse history) of lawful back in
    small_printable schema words script.seqs some history lawful few small (legal_asks law schema bytes script (reverse history) read lawful of)

-- so it is in turns, or side by side
pub printable_run : PassedIsEncodable → (schema : Schema) (bytes : List ℕ) (script : Script) (order : Option ℕ) (history : List Event)
    → IsPrintableSchema schema → IsScriptOf schema bytes script → Legal (wire_of schema) script.seqs history → OfScript schema script order history
    → length history ≤ MAX_EVENTS → IsPrintable schema (run_said script.seqs history)
printable_run law schema bytes script order history words read lawful of few =
    printable_any law schema bytes script history words read lawful (in_some_order schema script order (reverse history) of) few

-- its text says it, and nothing else
pub run_read_back : PassedIsEncodable → (schema : Schema) (bytes : List ℕ) (script : Script) (order : Option ℕ) (history : List Event)
    → IsPrintableSchema schema → IsScriptOf schema bytes script → Legal (wire_of schema) script.seqs history → OfScript schema script order history
    → length history ≤ MAX_EVENTS → Tells (texts.history schema) (run_text schema script.seqs history) (Ok (run_said script.seqs history))
run_read_back law schema bytes script order history words read lawful of few =
    text_said schema script.seqs history (printable_run law schema bytes script order history words read lawful of few)
