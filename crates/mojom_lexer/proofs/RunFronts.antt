-- Blank space, words and numbers at the front, the longest.
use Rattle.std.proofs.Common.{◌≡◌, ℕ, zero, suc, ◌+◌, ◌≤◌, List, [], ◌∷◌, length, take, drop, Bool, true, false, ◌==◌, ◌&&◌, ◌||◌, Some, refl, sym, subst, arith}
use Rattle.std.specs.List.{list_all}
use Rattle.mojom_lexer.specs.Bytes.{is_blank, is_digit, is_letter, is_hex_digit, goes_on, is_run}
use Rattle.mojom_lexer.specs.Words.{is_word}
use Rattle.mojom_lexer.specs.Numbers.{is_decimal, is_hexadecimal, is_number}
use Rattle.mojom_lexer.specs.Pieces.{Is, IsLongest}
use Rattle.mojom_lexer.specs.Pieces.Kind.{Blank, Word, Numeral}
use Rattle.mojom_lexer.specs.steps.Scans.{kind_at, run_len, number_len}
use Rattle.mojom_lexer.proofs.Runs.{left, right, both, run_within, run_passes, run_most}
use Rattle.mojom_lexer.proofs.Numerals.{hex_front, prefix_x}
use Rattle.mojom_lexer.proofs.FirstBytes.{longest_of, begins_blank, begins_word, begins_numeral}

-- each byte of a run passes
pub run_each : (p : ℕ → Bool) (bs : List ℕ) → is_run p bs ≡ true → list_all p bs ≡ true
run_each p [] e = refl
run_each p (c ∷ cs) e = e

-- where the first passes, what passes is a run
pub front_run : (p : ℕ → Bool) (c : ℕ) (cs : List ℕ) → p c ≡ true → is_run p (take (run_len p (c ∷ cs)) (c ∷ cs)) ≡ true
front_run p c cs e = rw e (both (p c) (list_all p (take (run_len p cs) cs)) e (run_passes p cs))

-- a run of blanks is the longest piece
pub blank_longest : (bs : List ℕ) → kind_at bs ≡ Some Blank → IsLongest bs (run_len is_blank bs) × (Is Blank (take (run_len is_blank bs) bs))
blank_longest [] e = absurd (cc)
blank_longest (c ∷ cs) e =
    let is : Is Blank (take (run_len is_blank (c ∷ cs)) (c ∷ cs)) = front_run is_blank c cs (begins_blank c e) in (
      longest_of Blank (c ∷ cs) (run_len is_blank (c ∷ cs)) e (run_within is_blank (c ∷ cs)) is
          (λ more le h. run_most is_blank (c ∷ cs) more le (run_each is_blank (take more (c ∷ cs)) h)),
      is,
    )

letter_on : (c : ℕ) → is_letter c ≡ true → goes_on c ≡ true
letter_on c e = rw e refl

word_each : (bs : List ℕ) → is_word bs ≡ true → list_all goes_on bs ≡ true
word_each [] e = refl
word_each (c ∷ cs) e =
    both (goes_on c) (list_all goes_on cs) (letter_on c (left (is_letter c) (list_all goes_on cs) e)) (right (is_letter c) (list_all goes_on cs) e)

front_word : (c : ℕ) (cs : List ℕ) → is_letter c ≡ true → is_word (take (run_len goes_on (c ∷ cs)) (c ∷ cs)) ≡ true
front_word c cs e =
    let g : goes_on c ≡ true = letter_on c e in
    rw g (both (is_letter c) (list_all goes_on (take (run_len goes_on cs) cs)) e (run_passes goes_on cs))

-- a letter and what passes behind it is the longest piece
pub word_longest : (bs : List ℕ) → kind_at bs ≡ Some Word → IsLongest bs (run_len goes_on bs) × (is_word (take (run_len goes_on bs) bs) ≡ true)
word_longest [] e = absurd (cc)
word_longest (c ∷ cs) e =
    let is : is_word (take (run_len goes_on (c ∷ cs)) (c ∷ cs)) ≡ true = front_word c cs (begins_word c e) in (
      longest_of Word (c ∷ cs) (run_len goes_on (c ∷ cs)) e (run_within goes_on (c ∷ cs)) is
          (λ more le h. run_most goes_on (c ∷ cs) more le (word_each (take more (c ∷ cs)) h)),
      is,
    )

decimal_number : (bs : List ℕ) → is_decimal bs ≡ true → is_number bs ≡ true
decimal_number bs e = rw e refl

hex_number : (d h : Bool) → h ≡ true → (d || h) ≡ true
hex_number true h e = refl
hex_number false h e = e

two_more : (n : ℕ) → 2 + n ≡ suc (suc n)
two_more n = omega arith

-- `0x` and a digit at the front: the number goes as far as the digits
module _ (c x : ℕ) (cs : List ℕ) (prefix : is_hexadecimal (take 3 (c ∷ x ∷ cs)) ≡ true) where
  begins_so : (c == 48 && (x == 120 || x == 88)) ≡ true
  begins_so = left (c == 48 && (x == 120 || x == 88)) (is_run is_hex_digit (take 1 cs)) prefix

  has_digits : is_run is_hex_digit (take (run_len is_hex_digit cs) cs) ≡ true
  has_digits = step cs (right (c == 48 && (x == 120 || x == 88)) (is_run is_hex_digit (take 1 cs)) prefix)
    where
      step : (ds : List ℕ) → is_run is_hex_digit (take 1 ds) ≡ true → is_run is_hex_digit (take (run_len is_hex_digit ds) ds) ≡ true
      step [] e = absurd (cc)
      step (d ∷ ds) e = front_run is_hex_digit d ds (left (is_hex_digit d) true e)

  hex_is : is_number (take (suc (suc (run_len is_hex_digit cs))) (c ∷ x ∷ cs)) ≡ true
  hex_is =
      hex_number (is_decimal (c ∷ x ∷ take (run_len is_hex_digit cs) cs)) (is_hexadecimal (c ∷ x ∷ take (run_len is_hex_digit cs) cs))
      (both (c == 48 && (x == 120 || x == 88)) (is_run is_hex_digit (take (run_len is_hex_digit cs) cs)) begins_so has_digits)

  hex_most : (more : ℕ) → more ≤ suc (suc (length cs)) → is_number (take more (c ∷ x ∷ cs)) ≡ true → more ≤ suc (suc (run_len is_hex_digit cs))
  hex_most zero le h = omega arith
  hex_most (suc zero) le h = omega arith
  hex_most (suc (suc m)) le h = step (is_decimal (c ∷ x ∷ take m cs)) refl h
    where
      shorter : is_hexadecimal (c ∷ x ∷ take m cs) ≡ true → suc (suc m) ≤ suc (suc (run_len is_hex_digit cs))
      shorter e =
          let most : m ≤ run_len is_hex_digit cs =
          run_most is_hex_digit cs m (omega arith)
          (run_each is_hex_digit (take m cs) (right (c == 48 && (x == 120 || x == 88)) (is_run is_hex_digit (take m cs)) e)) in
          omega arith

      no_digits : (is_digit c && (is_digit x && list_all is_digit (take m cs))) ≡ true → ⊥
      no_digits e =
          let d : is_digit x ≡ true = left (is_digit x) (list_all is_digit (take m cs)) (right (is_digit c) (is_digit x && list_all is_digit (take m cs)) e) in
          let n : is_digit x ≡ false = prefix_x c x cs prefix in
          absurd (cc)

      step : (v : Bool)
          → is_decimal (c ∷ x ∷ take m cs) ≡ v → (v || is_hexadecimal (c ∷ x ∷ take m cs)) ≡ true → suc (suc m) ≤ suc (suc (run_len is_hex_digit cs))
      step true f g = absurd (no_digits f)
      step false f g = shorter g

-- no such front: digits alone
module _ (c : ℕ) (cs : List ℕ) (no_prefix : is_hexadecimal (take 3 (c ∷ cs)) ≡ false) where
  no_hex : (xs : List ℕ) (more : ℕ) → is_hexadecimal (take 3 (c ∷ xs)) ≡ false → is_hexadecimal (take more (c ∷ xs)) ≡ true → ⊥
  no_hex xs zero f h = absurd (cc)
  no_hex xs (suc zero) f h = absurd (cc)
  no_hex [] (suc (suc m)) f h = absurd (cc)
  no_hex (x ∷ xs) (suc (suc zero)) f h = let e : is_run is_hex_digit [] ≡ true = right (c == 48 && (x == 120 || x == 88)) false h in absurd (cc)
  no_hex (x ∷ []) (suc (suc (suc m))) f h = let e : is_run is_hex_digit [] ≡ true = right (c == 48 && (x == 120 || x == 88)) false h in absurd (cc)
  no_hex (x ∷ d ∷ ds) (suc (suc (suc m))) f h = let e = hex_front (c ∷ x ∷ d ∷ take m ds) h in absurd (cc)

  decimal_most : (more : ℕ) → more ≤ suc (length cs) → is_number (take more (c ∷ cs)) ≡ true → more ≤ run_len is_digit (c ∷ cs)
  decimal_most more le h = step (is_decimal (take more (c ∷ cs))) refl h
    where
      step : (v : Bool) → is_decimal (take more (c ∷ cs)) ≡ v → (v || is_hexadecimal (take more (c ∷ cs))) ≡ true → more ≤ run_len is_digit (c ∷ cs)
      step true f g = run_most is_digit (c ∷ cs) more le (run_each is_digit (take more (c ∷ cs)) f)
      step false f g = absurd (no_hex cs more no_prefix g)

hex_len : (bs : List ℕ) → is_hexadecimal (take 3 bs) ≡ true → number_len bs ≡ suc (suc (run_len is_hex_digit (drop 2 bs)))
hex_len bs e = rw e (two_more (run_len is_hex_digit (drop 2 bs)))

decimal_len : (bs : List ℕ) → is_hexadecimal (take 3 bs) ≡ false → number_len bs ≡ run_len is_digit bs
decimal_len bs e = rw e refl

-- a length that is the longest number's
pub record NumberFront (bs : List ℕ) (len : ℕ) : Type 0 where
  pub within : len ≤ length bs
  pub is : is_number (take len bs) ≡ true
  pub most : (more : ℕ) → more ≤ length bs → is_number (take more bs) ≡ true → more ≤ len

number_front_of : (bs : List ℕ) → kind_at bs ≡ Some Numeral → (v : Bool) → is_hexadecimal (take 3 bs) ≡ v → NumberFront bs (number_len bs)
number_front_of [] e v f = absurd (cc)
number_front_of (c ∷ cs) e false f =
    subst (λ n. NumberFront (c ∷ cs) n) (sym (decimal_len (c ∷ cs) f)) (record {
      within = run_within is_digit (c ∷ cs);
      is = decimal_number (take (run_len is_digit (c ∷ cs)) (c ∷ cs)) (front_run is_digit c cs (begins_numeral c e));
      most = decimal_most c cs f;
    })
number_front_of (c ∷ []) e true f = absurd (cc)
number_front_of (c ∷ x ∷ cs) e true f =
    subst (λ n. NumberFront (c ∷ x ∷ cs) n) (sym (hex_len (c ∷ x ∷ cs) f)) (record {
      within = let le : run_len is_hex_digit cs ≤ length cs = run_within is_hex_digit cs in omega arith;
      is = hex_is c x cs f;
      most = hex_most c x cs f;
    })

-- a number is the longest piece
pub number_longest : (bs : List ℕ) → kind_at bs ≡ Some Numeral → IsLongest bs (number_len bs) × (is_number (take (number_len bs) bs) ≡ true)
number_longest bs e =
    let front = number_front_of bs e (is_hexadecimal (take 3 bs)) refl in
    (longest_of Numeral bs (number_len bs) e front.within front.is front.most, front.is)
