-- Texts in UTF-8 are bytes.
use Rattle.std.proofs.Common.{◌≡◌, ◌<◌, ℕ, ◌+◌, ◌/◌, Bool, true, false, List, [], ◌∷◌, length, refl, subst, arith, inl, inr}
use Rattle.std.specs.Prelude.{nat_lt}
use Rattle.std.proofs.lemmas.Bool.{ltb-true}
use Rattle.handle_table.proofs.ThingsLemmas.{and_left, and_right}
use Rattle.value_text.proofs.Utf8Lengths.{is_text}
use Rattle.wire_model.specs.Texts.{valid_len}
use Rattle.history_reader.specs.Printable.{AreBytes}
use Rattle.printed_histories.proofs.SmallLists.{all_both}
use Rattle.printed_histories.proofs.SmallWire.{IsByte}
use lib.Utf8.{scalar, scalars, scalar_cases, encode, encodes, next}
use mathlib.Core.Bool.{cond}

-- a scalar value is small
scalar_below : (c : ℕ) → scalar c ≡ true → c < 1114112
scalar_below c e = elim (scalar_cases c e) [
  | inl low ↦ omega (arith, low)
  | inr high ↦ high.1
]

encode_bytes : (c : ℕ) → c < 1114112 → AreBytes (encode c)
unfolding encode
encode_bytes c few = first (nat_lt c 128) refl
  where
    third : (b : Bool) → nat_lt c 65536 ≡ b
        → AreBytes (cond b ((224 + c / 4096) ∷ next (c / 64) ∷ next c ∷ []) ((240 + c / 262144) ∷ next (c / 4096) ∷ next (c / 64) ∷ next c ∷ []))
    third true e = let below = ltb-true c 65536 e in (omega (arith, below), (omega arith, (omega arith, tt)))
    third false e = (omega (arith, few), (omega arith, (omega arith, (omega arith, tt))))

    second : (b : Bool) → nat_lt c 2048 ≡ b
        → AreBytes (cond b ((192 + c / 64) ∷ next c ∷ [])
        (cond (nat_lt c 65536) ((224 + c / 4096) ∷ next (c / 64) ∷ next c ∷ []) ((240 + c / 262144) ∷ next (c / 4096) ∷ next (c / 64) ∷ next c ∷ [])))
    second true e = let below = ltb-true c 2048 e in (omega (arith, below), (omega arith, tt))
    second false e = third (nat_lt c 65536) refl

    first : (b : Bool) → nat_lt c 128 ≡ b
        → AreBytes (cond b (c ∷ []) (cond (nat_lt c 2048) ((192 + c / 64) ∷ next c ∷ [])
        (cond (nat_lt c 65536) ((224 + c / 4096) ∷ next (c / 64) ∷ next c ∷ []) ((240 + c / 262144) ∷ next (c / 4096) ∷ next (c / 64) ∷ next c ∷ []))))
    first true e = let below = ltb-true c 128 e in (omega (arith, below), tt)
    first false e = second (nat_lt c 2048) refl

all_encoded : (cs : List ℕ) → scalars cs ≡ true → AreBytes (encodes cs)
all_encoded [] e = tt
all_encoded (c ∷ cs) e = all_both IsByte (encode c) (encodes cs) (encode_bytes c (scalar_below c (and_left (scalar c) (scalars cs) e)))
    (all_encoded cs (and_right (scalar c) (scalars cs) e))

pub text_bytes : (bs : List ℕ) → valid_len bs ≡ length bs → AreBytes bs
text_bytes bs e = let text = is_text bs e in subst (λ (l : List ℕ). AreBytes l) text.1.1 (all_encoded text.0 text.1.0)
