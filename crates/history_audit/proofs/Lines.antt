-- Two lines of events of one number, of which each begins the same bytes, are of events that say the same.
use Rattle.std.proofs.Common.{◌≡◌, ℕ, List, ◌++◌, refl, sym, ap, ◌∙◌}
use Rattle.mj_schema.specs.declared.schema.Schema.{Schema}
use Rattle.bind_model.specs.declared.event.Event.{Event}
use Rattle.line_parts.specs.Names.{names_of}
use Rattle.line_parts.proofs.NameLaws.{words_of}
use Rattle.history_reader.specs.Said.{said_event}
use Rattle.history_reader.specs.Whole as whole
use Rattle.history_text.specs.History.{event_line}
use Rattle.history_reader.proofs.RoundTrip.{line_said}
use Rattle.history_reader.proofs.WholeLaws.{good_event_line}
use Rattle.history_reader.proofs.WholeTexts.{Numbered, texts_event}
use Rattle.history_audit.proofs.Fronts.{front_says}

-- of an event that was read and the newest of a run, whose line the bytes begin with too
pub line_says : (schema : Schema) (k : ℕ) (newest read : Event) → Numbered schema k (said_event newest) → Numbered schema k read → (rest more : List ℕ)
    → event_line schema k newest ++ rest ≡ event_line schema k read ++ more → said_event newest ≡ read
line_says schema k newest read one other rest more e =
    front_says (whole.event_line schema (names_of schema) k) (good_event_line schema (names_of schema) (words_of schema) k) (said_event newest) read
    (event_line schema k (said_event newest)) (event_line schema k read) rest more
    ((texts_event schema k).to (said_event newest) (event_line schema k (said_event newest)) (one, refl))
    ((texts_event schema k).to read (event_line schema k read) (other, refl))
    (ap (λ (l : List ℕ). l ++ rest) (line_said schema k newest) ∙ e)

-- and where they say the same, the lines are the same
pub says_line : (schema : Schema) (k : ℕ) (newest read : Event) → said_event newest ≡ read → event_line schema k newest ≡ event_line schema k read
says_line schema k newest read e = sym (line_said schema k newest) ∙ ap (event_line schema k) e
