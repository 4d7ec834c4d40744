-- Bytes of which the whole is the longest front in UTF-8 are UTF-8.
use Rattle.std.proofs.Common.{◌≡◌, ℕ, zero, suc, ◌≤◌, List, [], ◌∷◌, length, take, Bool, true, false, cond, refl, ap, subst, arith}
use Rattle.std.specs.Prelude.{IsUtf8}
use Rattle.std.specs.Str.{is_utf8}
use Rattle.std.specs.Str.Lossy.{utf8_valid_len, valid_len_up_to}
use Rattle.std.proofs.lemmas.Str.{IsUtf8-nil, IsUtf8-from_is_utf8}
use Rattle.wire_model.specs.Texts.{valid_len}

at_most : (bs : List ℕ) (n : ℕ) → valid_len_up_to bs n ≤ n
at_most bs zero = omega arith
at_most bs (suc n) = of (is_utf8 (take (suc n) bs)) (at_most bs n)
  where
    of : (v : Bool) → valid_len_up_to bs n ≤ n → cond v (suc n) (valid_len_up_to bs n) ≤ suc n
    of true le = omega arith
    of false le = omega (arith, le)

up_to : (bs : List ℕ) (n : ℕ) → valid_len_up_to bs n ≡ n → IsUtf8 (take n bs)
up_to bs zero e = IsUtf8-nil
up_to bs (suc n) e = of (is_utf8 (take (suc n) bs)) refl e
  where
    of : (v : Bool) → is_utf8 (take (suc n) bs) ≡ v → cond v (suc n) (valid_len_up_to bs n) ≡ suc n → IsUtf8 (take (suc n) bs)
    of true u e = IsUtf8-from_is_utf8 (take (suc n) bs) u
    of false u e = absurd (omega (arith, e, at_most bs n))

all_taken : (bs : List ℕ) → take (length bs) bs ≡ bs
all_taken [] = refl
all_taken (b ∷ bs) = ap (λ (l : List ℕ). b ∷ l) (all_taken bs)

pub is_text : (bs : List ℕ) → valid_len bs ≡ length bs → IsUtf8 bs
unfolding valid_len utf8_valid_len
is_text bs e = subst IsUtf8 (all_taken bs) (up_to bs (length bs) e)
