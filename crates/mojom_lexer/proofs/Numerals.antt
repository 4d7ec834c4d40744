-- Decimal and hexadecimal numbers are told apart by their first three bytes.
use Rattle.std.proofs.Common.{◌≡◌, ℕ, List, [], ◌∷◌, take, drop, Bool, true, false, ◌&&◌, ◌||◌, ◌==◌, refl, sym, ◌∙◌, arith}
use Rattle.std.specs.List.{list_all}
use Rattle.std.proofs.lemmas.Bool.Decides.{nat_tests}
use Rattle.mojom_lexer.specs.Bytes.{is_digit, is_hex_digit, is_run}
use Rattle.mojom_lexer.specs.Numbers.{is_decimal, is_hexadecimal, is_number}
use Rattle.mojom_lexer.proofs.Runs.{left, right, both}

digit_hex : (c : ℕ) → is_digit c ≡ true → is_hex_digit c ≡ true
digit_hex c e = rw e refl

all_hex : (cs : List ℕ) → list_all is_digit cs ≡ true → list_all is_hex_digit cs ≡ true
all_hex [] e = refl
all_hex (c ∷ cs) e =
    both (is_hex_digit c) (list_all is_hex_digit cs) (digit_hex c (left (is_digit c) (list_all is_digit cs) e))
    (all_hex cs (right (is_digit c) (list_all is_digit cs) e))

x_no_digit : (x : ℕ) → (x == 120 || x == 88) ≡ true → is_digit x ≡ false
x_no_digit x e = grind (arith, nat_tests)

-- a hexadecimal number begins as one
pub hex_front : (bs : List ℕ) → is_hexadecimal bs ≡ true → is_hexadecimal (take 3 bs) ≡ true
hex_front [] e = absurd (cc)
hex_front (c ∷ []) e = absurd (cc)
hex_front (c ∷ x ∷ []) e = e
hex_front (c ∷ x ∷ d ∷ ds) e =
    let a : (c == 48 && (x == 120 || x == 88)) ≡ true = left (c == 48 && (x == 120 || x == 88)) (is_run is_hex_digit (d ∷ ds)) e in
    let b : is_run is_hex_digit (d ∷ ds) ≡ true = right (c == 48 && (x == 120 || x == 88)) (is_run is_hex_digit (d ∷ ds)) e in
    both (c == 48 && (x == 120 || x == 88)) (is_hex_digit d && true) a (both (is_hex_digit d) true (left (is_hex_digit d) (list_all is_hex_digit ds) b) refl)

-- behind a hexadecimal's 0 stands no digit
pub prefix_x : (c x : ℕ) (cs : List ℕ) → is_hexadecimal (take 3 (c ∷ x ∷ cs)) ≡ true → is_digit x ≡ false
prefix_x c x cs e = x_no_digit x (right (c == 48) (x == 120 || x == 88) (left (c == 48 && (x == 120 || x == 88)) (is_run is_hex_digit (take 1 cs)) e))

-- where `0x` and a digit stand, the bytes are no decimal
pub hex_no_decimal : (bs : List ℕ) → is_hexadecimal (take 3 bs) ≡ true → is_decimal bs ≡ false
hex_no_decimal [] e = refl
hex_no_decimal (c ∷ []) e = absurd (cc)
hex_no_decimal (c ∷ x ∷ cs) e =
    let b : is_digit x ≡ false = prefix_x c x cs e in
    rw b (falls (is_digit c))
  where
    falls : (v : Bool) → (v && false) ≡ false
    falls true = refl
    falls false = refl

other_number : (d h : Bool) → (d || h) ≡ true → d ≡ false → h ≡ true
other_number true h e f = absurd (cc)
other_number false h e f = e

-- a number is hexadecimal where its first three bytes say so
pub number_front : (bs : List ℕ) → is_number bs ≡ true → is_hexadecimal bs ≡ is_hexadecimal (take 3 bs)
number_front bs e = step (is_hexadecimal (take 3 bs)) (is_hexadecimal bs) refl refl
  where
    step : (v w : Bool) → is_hexadecimal (take 3 bs) ≡ v → is_hexadecimal bs ≡ w → w ≡ v
    step true w f g = sym g ∙ other_number (is_decimal bs) (is_hexadecimal bs) e (hex_no_decimal bs f)
    step false true f g = sym (hex_front bs g) ∙ f
    step false false f g = refl

-- what stands behind `0x` is digits
pub hex_digits : (bs : List ℕ) → is_number bs ≡ true → is_hexadecimal (take 3 bs) ≡ true → list_all is_hex_digit (drop 2 bs) ≡ true
hex_digits bs e f = step bs (number_front bs e ∙ f)
  where
    step : (cs : List ℕ) → is_hexadecimal cs ≡ true → list_all is_hex_digit (drop 2 cs) ≡ true
    step [] h = absurd (cc)
    step (c ∷ []) h = absurd (cc)
    step (c ∷ x ∷ []) h = refl
    step (c ∷ x ∷ d ∷ ds) h = right (c == 48 && (x == 120 || x == 88)) (is_run is_hex_digit (d ∷ ds)) h

run_all : (bs : List ℕ) → is_decimal bs ≡ true → list_all is_digit bs ≡ true
run_all [] e = refl
run_all (c ∷ cs) e = e

decimal_of : (d h : Bool) → (d || h) ≡ true → h ≡ false → d ≡ true
decimal_of true h e f = refl
decimal_of false h e f = absurd (cc)

-- a number without `0x` is digits
pub decimal_digits : (bs : List ℕ) → is_number bs ≡ true → is_hexadecimal (take 3 bs) ≡ false → list_all is_hex_digit bs ≡ true
decimal_digits bs e f = all_hex bs (run_all bs (decimal_of (is_decimal bs) (is_hexadecimal bs) e (number_front bs e ∙ f)))
