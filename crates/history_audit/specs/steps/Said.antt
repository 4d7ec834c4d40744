-- The events of a run, and bytes that say some of them.
use Rattle.std.specs.Prelude.{ℕ, Bool, true, ◌≡◌, ◌≤◌, ◌++◌, List, length, reverse, take, Some, slice_get}
use Rattle.mj_base.specs.declared.limits.TheConstants.{MAX_FILE_BYTES}
use Rattle.mj_schema.specs.declared.schema.Schema.{Schema}
use Rattle.bind_model.specs.Left.{left}
use Rattle.bind_model.specs.declared.event.Event.{Event}
use Rattle.byte_rules.specs.Judged.{Spells}
use Rattle.call_script.specs.Sound.{IsScript}
use Rattle.call_script.specs.declared.script.Script.{Script}
use Rattle.callback_laws.specs.Callbacks.{callbacks}
use Rattle.history_reader.specs.Whole.{history as history_rule}
use Rattle.history_reader.specs.declared.printed.Printed.{Printed}
use Rattle.history_text.specs.History.{event_line, event_lines}
use Rattle.printed_histories.specs.Runs.{run_text}
use Rattle.script_run.specs.Followed.{Follows}
use Rattle.script_run.specs.declared.tracing.Followed.{Followed}
use Rattle.history_audit.specs.Audited.{ArePrintable, first_differing}
use Rattle.history_audit.specs.declared.auditing.AuditFinding.{AuditFinding}
use Rattle.history_audit.specs.declared.auditing.AuditFinding.TheVariants.{Sound, Tail}

-- bytes begin with the lines of so many of these events, the oldest first, and not with that of one more
pub record SaysFirst (schema : Schema) (events : List Event) (bytes : List ℕ) (count : ℕ) : Type 0 where
  pub within : count ≤ length events
  pub rest : List ℕ
  pub front : bytes ≡ event_lines schema 0 (take count events) ++ rest
  pub next : (event : Event) → slice_get events count ≡ Some event → (more : List ℕ) → rest ≡ event_line schema count event ++ more → ⊥

-- bytes that say this many events, and the run of the script that follows them
pub record IsAudited (schema : Schema) (script : Script) (printed : Printed) (bytes : List ℕ) (count : ℕ) (followed : Followed) : Type 0 where
  pub is : IsScript schema script
  pub short : script.bytes ≤ MAX_FILE_BYTES
  pub printable : ArePrintable schema script
  pub says : Spells (history_rule schema) printed bytes
  pub count_is : count ≡ length printed.events
  pub follows : Follows schema script printed.events followed.ran.history.events followed.whole
  pub left_is : followed.ran.left ≡ left script.seqs (reverse followed.ran.history.events)
  pub notes_are : followed.whole ≡ true → followed.ran.notes ≡ callbacks script.seqs followed.ran.history.events

-- what is said of bytes whose events are these of a whole run
abbrev pub Compares : Schema → Script → List Event → List ℕ → AuditFinding → Type 0
Compares schema script history bytes (Sound events) = (bytes ≡ run_text schema script.seqs history) × (events ≡ length history)
Compares schema script history bytes (Tail line) =
    (bytes ≡ run_text schema script.seqs history → ⊥) × (line ≡ first_differing 1 bytes (run_text schema script.seqs history))
Compares schema script history bytes audit = ⊥
