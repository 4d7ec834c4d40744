-- What a run leaves is the text of its script.
use Rattle.std.proofs.Common.{◌≡◌, ◌≤◌, ℕ, List, length, reverse, Ok, Option, sym, ap, ◌∙◌, subst}
use Rattle.std.proofs.lemmas.List.{length-reverse}
use Rattle.mj_base.specs.declared.limits.TheConstants.{MAX_EVENTS}
use Rattle.mj_schema.specs.declared.schema.Schema.{Schema}
use Rattle.handle_table.specs.declared.thing.Thing.{Thing}
use Rattle.bind_model.specs.declared.event.Event.{Event}
use Rattle.bind_model.specs.WireOf.{wire_of}
use Rattle.bind_model.specs.Replies.{legal, Legal}
use Rattle.bind_model.proofs.Askers.{of_askers}
use Rattle.bind_model.proofs.DataLemmas.{data_in_order}
use Rattle.bind_model.proofs.Fresh.{one_place}
use Rattle.bind_model.proofs.Responses.{own_responses, in_order, all_stand}
use Rattle.bind_model.proofs.FlushLemmas.{flushes_numbered}
use Rattle.bind_model.proofs.OriginLemmas.{have_writers}
use Rattle.bind_model.proofs.Pauses.{all_unpaused}
use Rattle.bind_model.specs.Left.{left}
use Rattle.mojom_compile.specs.Schemas.{IsSchemaOfFiles}
use Rattle.mojom_compile.specs.declared.source.Source.{Source}
use Rattle.call_script.specs.Script.{IsScriptOf}
use Rattle.call_script.specs.declared.script.Script.{Script}
use Rattle.callback_laws.specs.Callbacks.{callbacks}
use Rattle.group_laws.proofs.Law.{groups_apart}
use Rattle.history_laws.proofs.Owners.{one_owner}
use Rattle.reply_laws.proofs.Behind.{all_behind}
use Rattle.reply_laws.proofs.Once.{all_first}
use Rattle.reply_laws.proofs.Own.{all_own}
use Rattle.script_run.specs.OfScript.{OfScript}
use Rattle.history_text.specs.History.{history_text}
use Rattle.history_text.specs.declared.notes.Note.{Note}
use Rattle.history_reader.specs.Texts.{Tells}
use Rattle.history_reader.specs.Whole as texts
use Rattle.line_parts.specs.Schemas.{IsPrintableSchema}
use Rattle.printed_schemas.proofs.OfFiles.{printable_of_files}
use Rattle.printed_histories.specs.Runs.{run_said, run_text}
use Rattle.printed_histories.proofs.ValueSent.{PassedIsEncodable}
use Rattle.printed_runs.specs.Fitting.{AllFit}
use Rattle.printed_runs.proofs.Fitting.{run_fits}
use Rattle.printed_runs.proofs.Runs.{run_read_back}
use Rattle.mojo_tool.specs.Answers.{KeepsLaws, IsTextOf}

-- what a legal history keeps that has no more events than a core's, and sends what fits
keeps_laws : PassedIsEncodable → (schema : Schema) (seqs : ℕ) (past : List Event) → legal (wire_of schema) seqs past → length past ≤ MAX_EVENTS
    → AllFit schema past → KeepsLaws schema seqs past
keeps_laws law schema seqs past is few fit = record {
  in_order = in_order (wire_of schema) seqs past is;
  writers = have_writers (wire_of schema) seqs past is;
  stands = all_stand (wire_of schema) seqs past is;
  responses = own_responses (wire_of schema) seqs past is;
  askers = of_askers (wire_of schema) seqs past is few;
  own = all_own law schema seqs past is few;
  first = all_first law schema seqs past is few;
  fits = fit;
  flushes = flushes_numbered (wire_of schema) seqs past is;
  behind = all_behind schema seqs past is few;
  unpaused = all_unpaused (wire_of schema) seqs past is;
  flows = data_in_order (wire_of schema) seqs past is;
  one_place = one_place (wire_of schema) seqs past is;
  one_owner = one_owner (wire_of schema) seqs past is;
  groups = groups_apart (wire_of schema) seqs past is;
}

-- ## The text

-- the text of a legal history that is the script's, over the schema of files
pub text_of_run : PassedIsEncodable → (schema : Schema) (script : Script) (order : Option ℕ) (history : List Event) (notes : List Note) (things : List Thing)
    (text : List ℕ) → ((sources : List Source) × IsSchemaOfFiles sources schema) → ((bytes : List ℕ) × IsScriptOf schema bytes script)
    → Legal (wire_of schema) script.seqs history → OfScript schema script order history → length history ≤ MAX_EVENTS
    → notes ≡ callbacks script.seqs history → things ≡ left script.seqs (reverse history) → text ≡ history_text schema history notes things
    → IsTextOf schema script order text
text_of_run law schema script order history notes things text compiled read lawful events few told is whole =
    let same : text ≡ run_text schema script.seqs history = whole
    ∙ ap (λ (n : List Note). history_text schema history n things) told
    ∙ ap (λ (l : List Thing). history_text schema history (callbacks script.seqs history) l) is in
    let words : IsPrintableSchema schema = printable_of_files compiled.0 schema compiled.1 in
    let short : length (reverse history) ≤ MAX_EVENTS = subst (λ (n : ℕ). n ≤ MAX_EVENTS) (sym (length-reverse history)) few in
    record {
      history = history;
      legal = lawful;
      events = events;
      laws = keeps_laws law schema script.seqs (reverse history) lawful short
          (run_fits law schema read.0 script order history words read.1 events);
      whole = same;
      one = subst (λ (t : List ℕ). Tells (texts.history schema) t (Ok (run_said script.seqs history))) (sym same)
          (run_read_back law schema read.0 script order history words read.1 lawful events few);
    }
