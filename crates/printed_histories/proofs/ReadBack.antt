-- The text of a history that can be printed says that history and nothing else.
use Rattle.std.proofs.Common.{◌≡◌, ℕ, List, Result, Ok, Err, sym, ap, ◌∙◌, subst}
use Rattle.std.specs.Prelude.{length}
use Rattle.mj_schema.specs.declared.schema.Schema.{Schema}
use Rattle.handle_table.specs.declared.thing.Thing.{Thing}
use Rattle.bind_model.specs.declared.event.Event.{Event}
use Rattle.byte_rules.specs.Judged.{Spells}
use Rattle.byte_rules.specs.Lang.{Read}
use Rattle.byte_rules.specs.steps.Reading.{Judges, verdict}
use Rattle.byte_rules.proofs.Judging.{reads, judged}
use Rattle.value_text.specs.declared.text_error.TextError.{TextError}
use Rattle.value_text.specs.declared.text_error.TextError.TheVariants.{BadText}
use Rattle.history_text.specs.declared.notes.Note.{Note}
use Rattle.history_text.specs.History.{history_text}
use Rattle.history_reader.specs.Printable.{IsPrintable}
use Rattle.history_reader.specs.Said.{said}
use Rattle.history_reader.specs.Texts.{ReadsBack, Tells}
use Rattle.history_reader.specs.Whole.{history}
use Rattle.history_reader.specs.declared.printed.Printed.{Printed}
use Rattle.history_reader.proofs.RoundTrip.{reads_back}
use Rattle.history_reader.proofs.WholeLaws.{good_history}

-- the value that was read, or another
abbrev value_in : Printed → Read Printed → Printed
value_in other (Ok x) = x.0
value_in other (Err n) = other

module _ (schema : Schema) where
  one_value : (p q : Printed) (text : List ℕ) → Spells (history schema) p text → Spells (history schema) q text → q ≡ p
  one_value p q text h g =
      ap (value_in p) (sym (reads (history schema) (good_history schema) text q g) ∙ reads (history schema) (good_history schema) text p h)

  -- one that is read back from a text is what the text says
  tells : (p : Printed) (text : List ℕ) → Spells (history schema) p text → Tells (history schema) text (Ok p)
  tells p text h = (h, λ q g. one_value p q text h g)

  -- the text of what can be printed says it
  pub just_said : (events : List Event) (notes : List Note) (left : List Thing) → IsPrintable schema (said events notes left)
      → Tells (history schema) (history_text schema events notes left) (Ok (said events notes left))
  just_said events notes left is = go (history_text schema events notes left) (λ read t. reads_back schema events notes left read is t)
    where
      go : (text : List ℕ) → ((read : Result Printed TextError) → Tells (history schema) text read → ReadsBack (said events notes left) read)
          → Tells (history schema) text (Ok (said events notes left))
      go text back = of (verdict (length text) ((history schema).read text)) (judged (history schema) (good_history schema) text)
        where
          of : (r : Result Printed ℕ) → Judges (history schema) text r → Tells (history schema) text (Ok (said events notes left))
          of (Ok p) h =
              let same : p ≡ said events notes left = back (Ok p) (tells p text h) in
              subst (λ (x : Printed). Tells (history schema) text (Ok x)) same (tells p text h)
          of (Err at) bad = absurd (back (Err (BadText at)) bad)
