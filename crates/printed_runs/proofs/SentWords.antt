-- What a word of a script says is sent, and which message a word names.
use Rattle.std.proofs.Common.{◌≡◌, ◌∙◌, ℕ, List, Option, Some, None, sym, ap, refl}
use Rattle.std.specs.Prelude.{option_and_then}
use Rattle.std.specs.Option.{option_map}
use Rattle.mj_schema.specs.declared.schema.Schema.{Schema}
use Rattle.wire_model.specs.Trees.{view}
use Rattle.wire_model.specs.declared.target.MessageSide.{MessageSide}
use Rattle.wire_model.specs.declared.target.Target.{Target}
use Rattle.wire_encoder.specs.Prepared.{parameters_of}
use Rattle.wire_encoder.specs.declared.prepared.Prepared.{Prepared}
use Rattle.call_script.specs.Script.{IsValueOf}
use Rattle.call_script.specs.Targets.{target_named, message_named}
use Rattle.call_script.proofs.AutoLemmas.{message_side}
use Rattle.call_script.proofs.OneValue.{one_found}
use Rattle.printed_histories.specs.Asked.{IsSaid}
use Rattle.printed_histories.proofs.ValueSent.{PassedIsEncodable, prepared_said}

-- what a script sends: the value of a word, which was prepared
pub sent_value : PassedIsEncodable → (schema : Schema) (number : ℕ) (word : List ℕ) (prepared : Prepared) → IsValueOf schema number word prepared
    → parameters_of schema prepared.target ≡ Some number → IsSaid schema number (view prepared.value)
sent_value law schema number word prepared value e = prepared_said law schema number prepared value.1 e

-- the message that a word names has the parameters of its method, and its side
pub named_parameters : (schema : Schema) (side : MessageSide) (word : List ℕ) (target : Target) (number : ℕ)
    → message_named schema side word ≡ Some (target, number) → (parameters_of schema target ≡ Some number) × (target.side ≡ side)
named_parameters schema side word target number found = (go (target_named schema side word) found, message_side schema side word target number found)
  where
    inner : (t : Target) (o : Option ℕ) → parameters_of schema t ≡ o
        → option_map {U = Target × ℕ} (λ (number : ℕ). (t, number)) o ≡ Some (target, number) → parameters_of schema target ≡ Some number
    inner t None own e = absurd cc
    inner t (Some n) own e =
        let same = one_found t target n number e in ap (parameters_of schema) (sym same.0) ∙ (own ∙ ap (λ (n : ℕ). Some n) same.1)

    go : (o : Option Target)
        → option_and_then (λ (t : Target). option_map {U = Target × ℕ} (λ (number : ℕ). (t, number)) (parameters_of schema t)) o ≡ Some (target, number)
        → parameters_of schema target ≡ Some number
    go None e = absurd cc
    go (Some t) e = inner t (parameters_of schema t) refl e
