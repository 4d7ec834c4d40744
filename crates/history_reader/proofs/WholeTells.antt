-- The reading of a history tells of its bytes as a whole.
use Rattle.std.proofs.Common.{◌≡◌, ◌≤◌, ℕ, Bool, List, length, Result, Ok, Err, sym, ap, ◌∙◌, subst}
use Rattle.mj_schema.specs.declared.schema.Schema.{Schema}
use Rattle.byte_rules.specs.Lang.{Lang, Read}
use Rattle.byte_rules.specs.Judged.{Spells}
use Rattle.byte_rules.specs.steps.Reading.{Judges, verdict}
use Rattle.byte_rules.proofs.Good.{Good}
use Rattle.byte_rules.proofs.Judging.{judged, reads, no_more_left}
use Rattle.value_text.specs.declared.text_error.TextError.{TextError}
use Rattle.value_text.specs.declared.text_error.TextError.TheVariants as errors
use Rattle.history_reader.specs.Texts.{Tells}
use Rattle.history_reader.specs.Whole.{history}
use Rattle.history_reader.specs.steps.Reading.{Agrees}
use Rattle.history_reader.specs.declared.printed.Printed.{Printed}
use Rattle.history_reader.proofs.WholeLaws.{history_starts, good_history}

value_in : {A : Type 0} → A → Read A → A
value_in other (Ok x) = x.0
value_in other (Err n) = other

module _ {A : Type 0} {S more : ℕ → Bool} (one : Lang A) (g : Good S more one) where
  tells_with : (bytes : List ℕ) (r : Result A TextError) → Agrees r (verdict (length bytes) (one.read bytes)) → Tells one bytes r
  unfolding value_in
  tells_with bytes (Ok x) h =
      let spelled : Spells one x bytes = subst (λ (j : Result A ℕ). Judges one bytes j) h (judged one g bytes) in
      (spelled, λ other s. ap (value_in x) (sym (reads one g bytes other s) ∙ reads one g bytes x spelled))
  tells_with bytes (Err (errors.BadText at)) h = subst (λ (j : Result A ℕ). Judges one bytes j) h (judged one g bytes)
  tells_with bytes (Err errors.Memory) h = tt

pub tells_by : (schema : Schema) (bytes : List ℕ) (r : Result Printed TextError)
    → Agrees r (verdict (length bytes) ((history schema).read bytes)) → Tells (history schema) bytes r
tells_by schema bytes r h = tells_with (history schema) (good_history schema) bytes r h

pub rest_within : (schema : Schema) (bytes rest : List ℕ) (x : Printed) → (history schema).read bytes ≡ Ok (x, rest) → length rest ≤ length bytes
rest_within schema bytes rest x e = no_more_left Printed history_starts _ (history schema) (good_history schema) bytes (Ok (x, rest)) e

pub left_within : (schema : Schema) (bytes : List ℕ) (n : ℕ) → (history schema).read bytes ≡ Err n → n ≤ length bytes
left_within schema bytes n e = no_more_left Printed history_starts _ (history schema) (good_history schema) bytes (Err n) e
