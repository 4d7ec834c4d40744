-- Exactly one of the five fits, where the runs of a script can be printed.
use Rattle.std.proofs.Common.{◌≡◌, ℕ, List, refl, sym, ap, ◌∙◌}
use Rattle.std.specs.Prelude.{reverse, Ok, Err}
use Rattle.mj_schema.specs.declared.schema.Schema.{Schema}
use Rattle.bind_model.specs.Left.{left}
use Rattle.bind_model.specs.declared.event.Event.{Event}
use Rattle.byte_rules.specs.Judged.{Spells}
use Rattle.byte_rules.specs.Lang.{Read}
use Rattle.byte_rules.proofs.Judging.{reads}
use Rattle.call_script.specs.Sound.{IsScript}
use Rattle.call_script.specs.declared.script.Script.{Script}
use Rattle.callback_laws.specs.Callbacks.{callbacks}
use Rattle.history_reader.specs.Said.{said}
use Rattle.history_reader.specs.Whole.{history as history_rule}
use Rattle.history_reader.specs.declared.printed.Printed.{Printed}
use Rattle.history_reader.proofs.RoundTrip.{its_spelled}
use Rattle.history_reader.proofs.WholeLaws.{good_history}
use Rattle.printed_histories.specs.Runs.{run_text}
use Rattle.history_audit.specs.Audited.{ArePrintable, Audits, IsRun}
use Rattle.history_audit.specs.declared.auditing.AuditFinding.{AuditFinding}
use Rattle.history_audit.specs.declared.auditing.AuditError.TheVariants.{BadText}
use Rattle.history_audit.proofs.One as one

abbrev value_in : Printed → Read Printed → Printed
value_in other (Ok x) = x.0
value_in other (Err n) = other

module _ (schema : Schema) (script : Script) (is : IsScript schema script) (printable : ArePrintable schema script) (bytes : List ℕ) where
  one_value : (p q : Printed) → Spells (history_rule schema) p bytes → Spells (history_rule schema) q bytes → q ≡ p
  one_value p q h g =
      ap (value_in p) (sym (reads (history_rule schema) (good_history schema) bytes q g) ∙ reads (history_rule schema) (good_history schema) bytes p h)

  its_text : (history : List Event) → IsRun schema script history
      → Spells (history_rule schema) (said history (callbacks script.seqs history) (left script.seqs (reverse history))) (run_text schema script.seqs history)
  its_text history run =
      its_spelled schema history (callbacks script.seqs history) (left script.seqs (reverse history)) (printable history run)

  pub one_audit : (a b : AuditFinding) → Audits schema script bytes (Ok a) → Audits schema script bytes (Ok b) → a ≡ b
  one_audit a b first second = one.one_audit schema script is bytes its_text one_value a b first second

  pub one_bad : (a b : ℕ) → Audits schema script bytes (Err (BadText a)) → Audits schema script bytes (Err (BadText b)) → a ≡ b
  one_bad a b first second = one.one_bad schema script is bytes its_text one_value a b first second

  pub bad_alone : (at : ℕ) (a : AuditFinding) → Audits schema script bytes (Err (BadText at)) → Audits schema script bytes (Ok a) → ⊥
  bad_alone at a bad audit = one.bad_alone schema script is bytes its_text one_value at a bad audit
