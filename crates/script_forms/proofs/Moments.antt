-- Moments in decimal, all of 64 bits.
use Rattle.std.proofs.Common.{◌≡◌, ◌<◌, ◌^◌, ℕ, zero, suc, List, ◌∷◌, drop, refl, sym, ap, subst, ◌∙◌, arith}
use Rattle.std.specs.Prelude.{ℤ, pos, negsuc, neg_ℤ, FitsSigned, decimal, Result, Ok}
use Rattle.std.specs.Fmt.{signed_decimal}
use Rattle.std.specs.Int.{w64}
use Rattle.std.specs.Str.{IsAscii}
use Rattle.std.specs.Str.Parse.{AllDigits, ParsesSigned}
use Rattle.std.proofs.lemmas.Fmt.{IsAscii-decimal, decimal_injective, decimal_is_IsNumeral}
use Rattle.std.proofs.lemmas.Result.{Ok-from_Ok_iff}
use Rattle.std.proofs.lemmas.Str.Parse.{digit_from_value, numerals_by_value, parse_signed_digits, parse_signed_minus, tells_digits}

-- they are text
pub moment_is_ascii : (z : ℤ) → FitsSigned w64 z → IsAscii (signed_decimal z)
moment_is_ascii (pos n) fits i = let small = fits.sfits in IsAscii-decimal n (omega (arith, small)) i
moment_is_ascii (negsuc n) fits zero = omega arith
moment_is_ascii (negsuc n) fits (suc i) = let small = fits.sfits in IsAscii-decimal (suc n) (omega (arith, small)) i

-- no digits begin with a minus
no_minus : (n : ℕ) (ds : List ℕ) → n < 2 ^ 64 → decimal n ≡ 45 ∷ ds → ⊥
no_minus n ds h e = omega (arith, digit_from_value 45 (subst (AllDigits 10) e (decimal_is_IsNumeral n h).0.1).0)

-- each has its own spelling
pub moment_one : (y z : ℤ) → FitsSigned w64 y → FitsSigned w64 z → signed_decimal y ≡ signed_decimal z → y ≡ z
moment_one (pos m) (pos n) p q e =
    let a = p.sfits in
    let b = q.sfits in ap pos (decimal_injective m n (omega (arith, a)) (omega (arith, b)) e)
moment_one (pos m) (negsuc n) p q e = let a = p.sfits in absurd (no_minus m (decimal (suc n)) (omega (arith, a)) e)
moment_one (negsuc m) (pos n) p q e = let b = q.sfits in absurd (no_minus n (decimal (suc m)) (omega (arith, b)) (sym e))
moment_one (negsuc m) (negsuc n) p q e =
    let a = p.sfits in
    let b = q.sfits in
    ap negsuc (omega (arith, decimal_injective (suc m) (suc n) (omega (arith, a)) (omega (arith, b)) (ap (drop 1) e)))

-- and is read back
pub read_moment : {E : Type 0} (z : ℤ) (bs : List ℕ) (r : Result ℤ E) → FitsSigned w64 z → bs ≡ signed_decimal z → ParsesSigned w64 10 bs r → r ≡ Ok z
read_moment (pos n) bs r fits is h =
    let small = fits.sfits in
    let k = decimal_is_IsNumeral n (omega (arith, small)) in
    let read = parse_signed_digits (numerals_by_value _ tells_digits) w64 (decimal n) r (subst (λ l. ParsesSigned w64 10 l r) is h) k.0.1 in
    Ok-from_Ok_iff r _ _ read (k.0.0, omega (arith, k.1, small)) ∙ ap (λ m. Ok (pos m)) k.1
read_moment (negsuc n) bs r fits is h =
    let small = fits.sfits in
    let k = decimal_is_IsNumeral (suc n) (omega (arith, small)) in
    let read = parse_signed_minus (numerals_by_value _ tells_digits) w64 (45 ∷ decimal (suc n)) r (subst (λ l. ParsesSigned w64 10 l r) is h) refl in
    Ok-from_Ok_iff r _ _ read (k.0.1, k.0.0, omega (arith, k.1, small)) ∙ ap (λ m. Ok (neg_ℤ (pos m))) k.1
