-- A text compared with that of a run; and results.
use Rattle.std.proofs.Common.{◌≡◌, ℕ, List, sym, ap, ◌∙◌, subst}
use Rattle.std.specs.Prelude.{Result, Ok, Err, IfErr, IfOk, reverse}
use Rattle.mj_schema.specs.declared.schema.Schema.{Schema}
use Rattle.handle_table.specs.declared.thing.Thing.{Thing}
use Rattle.bind_model.specs.Left.{left}
use Rattle.bind_model.specs.declared.event.Event.{Event}
use Rattle.call_script.specs.declared.script.Script.{Script}
use Rattle.callback_laws.specs.Callbacks.{callbacks}
use Rattle.history_text.specs.History.{history_text}
use Rattle.history_text.specs.declared.notes.Note.{Note}
use Rattle.printed_histories.specs.Runs.{run_text}
use Rattle.history_audit.specs.Audited.{Audits}
use Rattle.history_audit.specs.declared.auditing.AuditFinding.{AuditFinding}
use Rattle.history_audit.specs.declared.auditing.AuditError.{AuditError}
use Rattle.history_audit.specs.declared.auditing.AuditError.TheVariants.{Memory}

-- the text of a run's history, of what became of its callbacks and of what it leaves is the run's
pub text_is : (schema : Schema) (seqs : ℕ) (history : List Event) (notes : List Note) (things : List Thing) → things ≡ left seqs (reverse history)
    → notes ≡ callbacks seqs history → history_text schema history notes things ≡ run_text schema seqs history
text_is schema seqs history notes things is told =
    ap (λ (ns : List Note). history_text schema history ns things) told
    ∙ ap (λ (ts : List Thing). history_text schema history (callbacks seqs history) ts) is

pub ok_weaker : {A E : Type 0} (result : Result A E) (P Q : A → Type 0) → ((a : A) → P a → Q a) → IfOk result P → IfOk result Q
ok_weaker (Ok a) P Q f p = f a p
ok_weaker (Err e) P Q f p = tt

-- an answer, where there is none only for want of memory
pub audits_by : (schema : Schema) (script : Script) (bytes : List ℕ) (result : Result AuditFinding AuditError)
    → IfOk result (λ audit. Audits schema script bytes (Ok audit)) → IfErr result (λ error. error ≡ Memory) → Audits schema script bytes result
audits_by schema script bytes (Ok audit) p memory = p
audits_by schema script bytes (Err error) p memory = subst (λ (e : AuditError). Audits schema script bytes (Err e)) (sym memory) tt
