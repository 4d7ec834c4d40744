-- The laws of the words of a schema: a blank stands behind them.
use Rattle.std.proofs.Common.{◌≡◌, ℕ, List, [], ◌∷◌, map, Option, Bool, true, false, cond, ◌==◌, refl, ap, ◌∙◌, arith}
use Rattle.std.specs.Prelude.{not, unwrap_or}
use Rattle.std.specs.List.{list_all}
use Rattle.std.proofs.lemmas.Bool.{false≢true}
use Rattle.std.proofs.lemmas.Bool.Decides.{nat_tests}
use Rattle.mj_schema.specs.declared.schema.Schema.{Schema}
use Rattle.wire_model.specs.declared.target.MessageSide.{MessageSide}
use Rattle.wire_model.specs.declared.target.MessageSide.TheVariants.{Request, Response}
use Rattle.byte_rules.proofs.Among.{good_among}
use Rattle.byte_rules.proofs.Good.{Good, Apart, good_value}
use Rattle.value_text.proofs.NumberLaws.{both_left, both_right}
use Rattle.line_parts.specs.Signs.{blank}
use Rattle.line_parts.specs.Names.{is_word, that_are_words, interfaces_from, messages_from, names_of, messages_of, meaning, texts, named, interface}
use Rattle.line_parts.specs.declared.names.Entry.{Entry}
use Rattle.line_parts.specs.declared.names.Names.{Names}
use Rattle.line_parts.proofs.KeywordLaws.{one_passes}

-- a byte of a word of a schema
abbrev pub is_not_blank : ℕ → Bool
is_not_blank b = not (b == blank)

pub blank_apart : Apart (λ b. b == blank) is_not_blank
blank_apart b e = grind (arith, nat_tests)

-- all of some entries have words
abbrev pub are_words : {A : Type 0} → List (Entry A) → Bool
are_words entries = list_all is_word (texts entries)

-- all words of a schema are words
pub record AreWords (names : Names) : Type 0 where
  pub interfaces : are_words names.interfaces ≡ true
  pub requests : are_words names.requests ≡ true
  pub responses : are_words names.responses ≡ true

kept_words : {A : Type 0} (entries : List (Entry A)) → are_words (that_are_words entries) ≡ true
kept_words [] = refl
kept_words {A} (e ∷ es) = of (is_word e.text) refl (kept_words es)
  where
    of : (v : Bool) → is_word e.text ≡ v → are_words (that_are_words es) ≡ true
        → are_words (cond v (e ∷ that_are_words es) (that_are_words es)) ≡ true
    of true w k = rw w k
    of false w k = k

pub words_of : (schema : Schema) → AreWords (names_of schema)
words_of schema = record {
  interfaces = kept_words (interfaces_from 0 schema.interfaces);
  requests = kept_words (messages_from Request 0 schema.interfaces);
  responses = kept_words (messages_from Response 0 schema.interfaces);
}

pub messages_are_words : (names : Names) (side : MessageSide) → AreWords names → are_words (messages_of names side) ≡ true
messages_are_words names Request w = w.requests
messages_are_words names Response w = w.responses

bytes_of : (w : List ℕ) → is_word w ≡ true → (b : ℕ) × (bs : List ℕ) × (w ≡ b ∷ bs) × (is_not_blank b ≡ true) × (list_all is_not_blank bs ≡ true)
bytes_of [] h = absurd (false≢true h)
bytes_of (b ∷ bs) h = (b, bs, refl, both_left (is_not_blank b) (list_all is_not_blank bs) h, both_right (is_not_blank b) (list_all is_not_blank bs) h)

itself : (ws : List (List ℕ)) → map (λ (w : List ℕ). w) ws ≡ ws
itself [] = refl
itself (w ∷ ws) = ap (λ (l : List (List ℕ)). w ∷ l) (itself ws)

pub good_named : {A : Type 0} (entries : List (Entry A)) → are_words entries ≡ true → Good is_not_blank is_not_blank (named entries)
good_named {A} entries h = good_value (meaning entries) (good_among is_not_blank is_not_blank [] (λ (w : List ℕ). w) (texts entries) (record {
  one = λ x y i j e. e;
  first = λ x i. bytes_of x (one_passes (λ (w : List ℕ). w) is_word (texts entries) x (ap (list_all is_word) (itself (texts entries)) ∙ h) i);
}))

pub good_interface : (names : Names) → AreWords names → Good is_not_blank is_not_blank (interface names)
good_interface names w = good_value (λ (found : Option ℕ). unwrap_or found 0) (good_named names.interfaces w.interfaces)
