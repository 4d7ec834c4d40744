-- A script with the count of the bytes that it was read from is the same script, and sound.
use Rattle.std.proofs.Common.{◌≡◌, ◌≤◌, ℕ, List, length, ◌⊎◌, inl, inr}
use Rattle.std.specs.Prelude.{Result, Ok, Err}
use Rattle.mj_base.specs.declared.limits.TheConstants.{MAX_FILE_BYTES}
use Rattle.mj_schema.specs.declared.schema.Schema.{Schema}
use Rattle.call_script.specs.Script.{IsScriptOf}
use Rattle.call_script.specs.Sound.{IsScript}
use Rattle.call_script.specs.declared.script.Script.{Script}
use Rattle.call_script.proofs.OneScript.{one_script}
use Rattle.call_script.proofs.Sending.{text_letters}
use Rattle.call_script.proofs.SoundLemmas.{script_sound}
use Rattle.line_parts.specs.Schemas.{IsPrintableSchema}
use Rattle.history_audit.specs.Audited.{ArePrintable, Audits}
use Rattle.history_audit.specs.declared.auditing.AuditFinding.{AuditFinding}
use Rattle.history_audit.specs.declared.auditing.AuditError.{AuditError}
use Rattle.history_audit.specs.declared.auditing.AuditError.TheVariants.{BadText}
use Rattle.history_audit.proofs.Exactly.{bad_alone, one_audit, one_bad}
use Rattle.history_audit.proofs.Printed.{AnyOrder, are_printable}
use Rattle.history_audit.proofs.SameScripts.{audits_same}
use Rattle.history_audit.proofs.SomeAnswer.{some_audit}

abbrev pub counted : List ℕ → Script → Script
counted source script =
    record { seqs = script.seqs; names = script.names; bytes = length source; autos = script.autos; lines = script.lines }

module _ (law : AnyOrder) (schema : Schema) (words : IsPrintableSchema schema) (source : List ℕ) (short : length source ≤ MAX_FILE_BYTES) where
  is_counted : (script : Script) → IsScriptOf schema source script → IsScriptOf schema source (counted source script)
  is_counted script is = record {
    forms = is.forms;
    parts = is.parts;
    count = is.count;
    spelled = is.spelled;
    taken = is.taken;
    autos = is.autos;
    lines = is.lines;
    names = is.names;
    few = is.few;
  }

  sound : (script : Script) → IsScriptOf schema source script → IsScript schema (counted source script)
  sound script is = script_sound schema _ (counted source script) (is_counted script is) (text_letters source)

  printable : (script : Script) → IsScriptOf schema source script → ArePrintable schema (counted source script)
  printable script is = are_printable law schema source (counted source script) words (is_counted script is) (sound script is) short

  -- what fits by one script of the bytes fits by another
  moved : (one other : Script) (bytes : List ℕ) (result : Result AuditFinding AuditError) → IsScriptOf schema source one → IsScriptOf schema source other
      → Audits schema one bytes result → Audits schema other bytes result
  moved one other bytes result is also =
      audits_same schema one other bytes result (one_script schema source one other is also) (one_script schema source other one also is)

  here : (one other : Script) (bytes : List ℕ) (result : Result AuditFinding AuditError) → IsScriptOf schema source one → IsScriptOf schema source other
      → Audits schema other bytes result → Audits schema (counted source one) bytes result
  here one other bytes result is also = moved other (counted source one) bytes result also (is_counted one is)

  -- by scripts of the same bytes no two answers fit a text
  pub one_answer : (one other : Script) (bytes : List ℕ) (a b : AuditFinding) → IsScriptOf schema source one → IsScriptOf schema source other
      → Audits schema one bytes (Ok a) → Audits schema other bytes (Ok b) → a ≡ b
  one_answer one other bytes a b is also first second =
      one_audit schema (counted source one) (sound one is) (printable one is) bytes a b (here one one bytes (Ok a) is is first)
      (here one other bytes (Ok b) is also second)

  pub one_place : (one other : Script) (bytes : List ℕ) (a b : ℕ) → IsScriptOf schema source one → IsScriptOf schema source other
      → Audits schema one bytes (Err (BadText a)) → Audits schema other bytes (Err (BadText b)) → a ≡ b
  one_place one other bytes a b is also first second =
      one_bad schema (counted source one) (sound one is) (printable one is) bytes a b (here one one bytes (Err (BadText a)) is is first)
      (here one other bytes (Err (BadText b)) is also second)

  pub never_both : (one other : Script) (bytes : List ℕ) (at : ℕ) (b : AuditFinding) → IsScriptOf schema source one → IsScriptOf schema source other
      → Audits schema one bytes (Err (BadText at)) → Audits schema other bytes (Ok b) → ⊥
  never_both one other bytes at b is also first second =
      bad_alone schema (counted source one) (sound one is) (printable one is) bytes at b (here one one bytes (Err (BadText at)) is is first)
      (here one other bytes (Ok b) is also second)

  -- and one does
  pub some_answer : (script : Script) (bytes : List ℕ) → IsScriptOf schema source script
      → ((answer : AuditFinding) × Audits schema script bytes (Ok answer)) ⊎ ((at : ℕ) × Audits schema script bytes (Err (BadText at)))
  some_answer script bytes is = go (some_audit schema (counted source script) (sound script is) short (printable script is) bytes)
    where
      go : ((answer : AuditFinding) × Audits schema (counted source script) bytes (Ok answer))
          ⊎ ((at : ℕ) × Audits schema (counted source script) bytes (Err (BadText at)))
          → ((answer : AuditFinding) × Audits schema script bytes (Ok answer)) ⊎ ((at : ℕ) × Audits schema script bytes (Err (BadText at)))
      go (inl some) = inl (some.0, moved (counted source script) script bytes (Ok some.0) (is_counted script is) is some.1)
      go (inr bad) = inr (bad.0, moved (counted source script) script bytes (Err (BadText bad.0)) (is_counted script is) is bad.1)
