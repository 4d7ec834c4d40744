-- The decimal text of a number is its token.
use Rattle.std.proofs.Common.{◌≡◌, ℕ, zero, suc, ◌+◌, ◌*◌, ◌/◌, ◌%◌, ◌^◌, ◌≤◌, ◌<◌, List, [], ◌∷◌, ◌++◌, length, take, get_or, Bool, true, false, not, ◌==◌, ◌&&◌, ◌||◌, nat_eq, refl, sym, ◌∙◌, ap, subst, arith}
use Rattle.std.specs.Prelude.{decimal, nat_lt, nat_le}
use Rattle.std.specs.List.{list_all}
use Rattle.std.proofs.Math.Seq.{take-append_seam}
use Rattle.std.proofs.lemmas.Bool.Decides.{nat_tests}
use Rattle.std.proofs.lemmas.Fmt.{decimal_by_steps, decimal_nonempty, decimal_digit, first_decimal, IsAscii-decimal}
use Rattle.std.proofs.lemmas.Str.{IsUtf8-from_ascii}
use Rattle.mojom_ast.specs.declared.token.Sort.{Sort}
use Rattle.mojom_ast.specs.declared.token.Sort.TheVariants as sorts
use Rattle.mojom_lexer.specs.Bytes.{is_digit, is_hex_digit, goes_on, is_run}
use Rattle.mojom_lexer.specs.Numbers.{is_decimal, is_hexadecimal, is_number, has_leading_zero, digit_value, value_from}
use Rattle.mojom_lexer.specs.Pieces.{IsLongest}
use Rattle.mojom_lexer.specs.Pieces.Kind.{Numeral}
use Rattle.mojom_lexer.specs.Lexed.{IsNumber}
use Rattle.mojom_lexer.proofs.Runs.{left, right, both}
use Rattle.mojom_lexer.proofs.FirstBytes.{first_tells, longest_of}
use Rattle.mojom_lexer.proofs.RunFronts.{run_each}
use Rattle.mojom_print.proofs.Lexes.{stops, run_stops, Lexes, token, Tells, none, stops_none}
use Rattle.mojom_print.proofs.WordTexts.{whole_front, greater}

-- digits, and their value
record IsDecimalOf (n : ℕ) (ds : List ℕ) : Type 0 where
  pub digits : list_all is_digit ds ≡ true
  pub worth : value_from 10 0 ds ≡ n

digit_is : (n : ℕ) → n < 10 → is_digit (48 + n) ≡ true
digit_is n h = grind (arith, nat_tests)

digit_worth : (n : ℕ) → n < 10 → digit_value (48 + n) ≡ n
digit_worth n h =
    let least : nat_le 48 (48 + n) ≡ true = grind (arith, nat_tests) in
    let most : nat_le (48 + n) 57 ≡ true = grind (arith, nat_tests) in
    simp (least, most) (omega arith)

all_more : (ds : List ℕ) (d : ℕ) → list_all is_digit ds ≡ true → is_digit d ≡ true → list_all is_digit (ds ++ d ∷ []) ≡ true
all_more [] d h e = both (is_digit d) true e refl
all_more (c ∷ cs) d h e =
    both (is_digit c) (list_all is_digit (cs ++ d ∷ [])) (left (is_digit c) (list_all is_digit cs) h)
    (all_more cs d (right (is_digit c) (list_all is_digit cs) h) e)

value_more : (v : ℕ) (ds : List ℕ) (d : ℕ) → value_from 10 v (ds ++ d ∷ []) ≡ value_from 10 v ds * 10 + digit_value d
value_more v [] d = refl
value_more v (c ∷ cs) d = value_more (v * 10 + digit_value c) cs d

one_digit : (n : ℕ) → n < 10 → IsDecimalOf n ((48 + n) ∷ [])
one_digit n h = record {
  digits = both (is_digit (48 + n)) true (digit_is n h) refl;
  worth = let e = digit_worth n h in omega arith;
}

digit_more : (n : ℕ) (ds : List ℕ) → 10 ≤ n → IsDecimalOf (n / 10) ds → IsDecimalOf n (ds ++ (48 + n % 10) ∷ [])
digit_more n ds h a =
    let small : n % 10 < 10 = omega arith in
    let w : digit_value (48 + n % 10) ≡ n % 10 = digit_worth (n % 10) small in
    let v : value_from 10 0 (ds ++ (48 + n % 10) ∷ []) ≡ value_from 10 0 ds * 10 + digit_value (48 + n % 10) = value_more 0 ds (48 + n % 10) in
    let u : value_from 10 0 ds ≡ n / 10 = a.worth in
    record {
      digits = all_more ds (48 + n % 10) a.digits (digit_is (n % 10) small);
      worth = v ∙ ap (λ (k : ℕ). k * 10 + digit_value (48 + n % 10)) u ∙ ap (λ (k : ℕ). n / 10 * 10 + k) w ∙ omega arith;
    }

decimal_is : (n : ℕ) → n < 2 ^ 64 → IsDecimalOf n (decimal n)
decimal_is n h = decimal_by_steps IsDecimalOf one_digit digit_more n h

-- no digits but 0 itself begin with a 0
high_lead : (ds : List ℕ) → 48 < get_or ds 0 0 → has_leading_zero ds ≡ false
high_lead [] h = refl
high_lead (c ∷ []) h = refl
high_lead (c ∷ d ∷ cs) h = let e : (c == 48) ≡ false = grind (arith, nat_tests) in rw e refl

no_lead : (n : ℕ) → n < 2 ^ 64 → has_leading_zero (decimal n) ≡ false
no_lead n h = of (nat_lt 0 n) refl
  where
    of : (v : Bool) → nat_lt 0 n ≡ v → has_leading_zero (decimal n) ≡ false
    of true e = high_lead (decimal n) (first_decimal n (grind (arith, nat_tests)) h)
    of false e = let z : n < 10 = grind (arith, nat_tests) in subst (λ (ds : List ℕ). has_leading_zero ds ≡ false) (sym (decimal_digit n z)) refl

-- digits are no hexadecimal number's front
x_letter : (r : ℕ) → (r == 120 || r == 88) ≡ true → goes_on r ≡ true
x_letter r e = grind (arith, nat_tests)

x_no_digit : (r : ℕ) → (r == 120 || r == 88) ≡ true → is_digit r ≡ false
x_no_digit r e = grind (arith, nat_tests)

clash : (v : Bool) → v ≡ true → not v ≡ true → ⊥
clash true e f = absurd (cc)
clash false e f = absurd (cc)

no_hex : (c : ℕ) (cs rest : List ℕ) → list_all is_digit (c ∷ cs) ≡ true → stops goes_on rest ≡ true → (more : ℕ)
    → is_hexadecimal (take more ((c ∷ cs) ++ rest)) ≡ true → ⊥
no_hex c cs rest h s zero e = absurd (cc)
no_hex c cs rest h s (suc zero) e = absurd (cc)
no_hex c [] [] h s (suc (suc m)) e = absurd (cc)
no_hex c [] (r ∷ rs) h s (suc (suc m)) e =
    let x : (r == 120 || r == 88) ≡ true =
    right (c == 48) (r == 120 || r == 88) (left (c == 48 && (r == 120 || r == 88)) (is_run is_hex_digit (take m rs)) e) in
    clash (goes_on r) (x_letter r x) s
no_hex c (d ∷ ds) rest h s (suc (suc m)) e =
    let x : (d == 120 || d == 88) ≡ true =
    right (c == 48) (d == 120 || d == 88) (left (c == 48 && (d == 120 || d == 88)) (is_run is_hex_digit (take m (ds ++ rest))) e) in
    let f : is_digit d ≡ false = x_no_digit d x in
    let g : is_digit d ≡ true = left (is_digit d) (list_all is_digit ds) (right (is_digit c) (list_all is_digit (d ∷ ds)) h) in
    absurd (cc)

digits_no_hex : (ds : List ℕ) → list_all is_digit ds ≡ true → is_hexadecimal ds ≡ false
digits_no_hex [] h = refl
digits_no_hex (c ∷ []) h = refl
digits_no_hex (c ∷ d ∷ ds) h = of (is_hexadecimal (c ∷ d ∷ ds)) refl
  where
    of : (v : Bool) → is_hexadecimal (c ∷ d ∷ ds) ≡ v → v ≡ false
    of true e =
        let x : (d == 120 || d == 88) ≡ true = right (c == 48) (d == 120 || d == 88) (left (c == 48 && (d == 120 || d == 88)) (is_run is_hex_digit ds) e) in
        let f : is_digit d ≡ false = x_no_digit d x in
        let g : is_digit d ≡ true = left (is_digit d) (list_all is_digit ds) (right (is_digit c) (list_all is_digit (d ∷ ds)) h) in
        absurd (cc)
    of false e = refl

digit_on : (c : ℕ) → is_digit c ≡ true → goes_on c ≡ true
digit_on c e = grind (arith, nat_tests)

stops_digit : (rest : List ℕ) → stops goes_on rest ≡ true → stops is_digit rest ≡ true
stops_digit [] s = refl
stops_digit (c ∷ cs) s = of (is_digit c) refl
  where
    of : (v : Bool) → is_digit c ≡ v → not v ≡ true
    of true e = absurd (clash (goes_on c) (digit_on c e) s)
    of false e = refl

is_number_of : (c : ℕ) (cs : List ℕ) → list_all is_digit (c ∷ cs) ≡ true → is_number (c ∷ cs) ≡ true
is_number_of c cs h = rw h refl

-- digits before what goes on no word
digits_longest : (c : ℕ) (cs rest : List ℕ) → list_all is_digit (c ∷ cs) ≡ true → stops goes_on rest ≡ true → IsLongest ((c ∷ cs) ++ rest) (length (c ∷ cs))
digits_longest c cs rest h s =
    longest_of Numeral ((c ∷ cs) ++ rest) (length (c ∷ cs)) (first_tells Numeral c cs (is_number_of c cs h)) (whole_front (c ∷ cs) rest)
    (subst (λ (bs : List ℕ). is_number bs ≡ true) (sym (take-append_seam (c ∷ cs) rest)) (is_number_of c cs h)) most
  where
    most : (more : ℕ) → more ≤ length ((c ∷ cs) ++ rest) → is_number (take more ((c ∷ cs) ++ rest)) ≡ true → more ≤ length (c ∷ cs)
    most more le e = of (is_decimal (take more ((c ∷ cs) ++ rest))) refl e
      where
        of : (v : Bool) → is_decimal (take more ((c ∷ cs) ++ rest)) ≡ v → (v || is_hexadecimal (take more ((c ∷ cs) ++ rest))) ≡ true → more ≤ length (c ∷ cs)
        of true f g = run_stops is_digit (c ∷ cs) rest (stops_digit rest s) more le (run_each is_digit (take more ((c ∷ cs) ++ rest)) f)
        of false f g = absurd (no_hex c cs rest h s more g)

decimal_number : (n : ℕ) → n < 2 ^ 64 → (ds : List ℕ) → IsDecimalOf n ds → has_leading_zero ds ≡ false → 0 < length ds → IsNumber n ds
decimal_number n small [] d lead some = absurd (omega arith)
decimal_number n small (c ∷ cs) d lead some =
    let no : is_hexadecimal (c ∷ cs) ≡ false = digits_no_hex (c ∷ cs) d.digits in
    record { number = is_number_of c cs d.digits; leads = lead; worth = rw no d.worth; fits = small }

digits_told : (n : ℕ) (ds : List ℕ) → list_all is_digit ds ≡ true → IsNumber n ds → (rest : List ℕ) (more : List Sort) → stops goes_on rest ≡ true
    → Lexes rest more → Lexes (ds ++ rest) (sorts.Number n ∷ more)
digits_told n [] d is rest more s l = let e = is.number in absurd (cc)
digits_told n (c ∷ cs) d is rest more s l = token (c ∷ cs) rest (sorts.Number n) more is (digits_longest c cs rest d s) l

digit_not_greater : (c : ℕ) → is_digit c ≡ true → nat_eq 62 c ≡ false
digit_not_greater c e = grind (arith, nat_tests)

digits_part : (ds rest : List ℕ) → list_all is_digit ds ≡ true → stops greater rest ≡ true → stops greater (ds ++ rest) ≡ true
digits_part [] rest d s = s
digits_part (c ∷ cs) rest d s = let e : nat_eq 62 c ≡ false = digit_not_greater c (left (is_digit c) (list_all is_digit cs) d) in rw e refl

-- goes on a word, or makes an arrow of `=`
abbrev pub after_value : ℕ → Bool
after_value c = goes_on c || greater c

either : (a b : Bool) → not (a || b) ≡ true → (not a ≡ true) × (not b ≡ true)
either true b e = absurd (cc)
either false b e = (refl, e)

-- for `before`: what stops behind a value stops behind a word
pub value_on : (rest : List ℕ) → stops after_value rest ≡ true → stops goes_on rest ≡ true
value_on [] s = refl
value_on (c ∷ cs) s = (either (goes_on c) (greater c) s).0

-- for `before`: what stops behind a value is no `>`
pub value_greater : (rest : List ℕ) → stops after_value rest ≡ true → stops greater rest ≡ true
value_greater [] s = refl
value_greater (c ∷ cs) s = (either (goes_on c) (greater c) s).1

-- for `number_tells`: the digits are a number
pub number_told : (n : ℕ) → n < 2 ^ 64 → (rest : List ℕ) (more : List Sort) → stops goes_on rest ≡ true → Lexes rest more
    → Lexes (decimal n ++ rest) (sorts.Number n ∷ more)
number_told n small rest more s l =
    let d : IsDecimalOf n (decimal n) = decimal_is n small in
    digits_told n (decimal n) d.digits (decimal_number n small (decimal n) d (no_lead n small) (decimal_nonempty n small)) rest more s l

-- for the texts that have a number
pub number_tells : (n : ℕ) → Tells none goes_on (decimal n) (sorts.Number n ∷ [])
number_tells n = record {
  parts = λ h rest s. stops_none (decimal n ++ rest);
  told = λ h rest more s l. number_told n h.0.spelled.fits rest more s l;
  utf8 = λ h. IsUtf8-from_ascii (decimal n) (IsAscii-decimal n h.0.spelled.fits);
}

-- for the text of a value
pub number_value_tells : (n : ℕ) → Tells greater after_value (decimal n) (sorts.Number n ∷ [])
number_value_tells n = record {
  parts = λ h rest s. digits_part (decimal n) rest (decimal_is n h.0.spelled.fits).digits (value_greater rest s);
  told = λ h rest more s l. number_told n h.0.spelled.fits rest more (value_on rest s) l;
  utf8 = (number_tells n).utf8;
}
