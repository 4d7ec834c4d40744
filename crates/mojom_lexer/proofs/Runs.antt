-- Bytes at the front that pass a test.
use Rattle.std.proofs.Common.{◌≡◌, ℕ, zero, suc, ◌+◌, ◌≤◌, ◌<◌, List, [], ◌∷◌, length, take, drop, get_or, Bool, true, false, cond, ◌&&◌, refl, ap, ◌∙◌, arith, lit<, add-one, drop-cons, length-drop}
use Rattle.std.specs.List.{list_all}
use Rattle.std.specs.Str.{IsAscii, IsUtf8}
use Rattle.std.proofs.lemmas.Str.{IsUtf8-from_ascii}
use Rattle.std.proofs.lemmas.Bool.Decides.{nat_tests}
use Rattle.mojom_lexer.specs.Bytes.{is_letter, goes_on}
use Rattle.mojom_lexer.specs.Words.{is_word}
use Rattle.mojom_lexer.specs.steps.Scans.{run_len}

-- two truths are one
pub both : (a b : Bool) → a ≡ true → b ≡ true → (a && b) ≡ true
both true b e h = h
both false b e h = absurd (cc)

-- of two truths the first
pub left : (a b : Bool) → (a && b) ≡ true → a ≡ true
left true b e = refl
left false b e = absurd (cc)

-- of two truths the second
pub right : (a b : Bool) → (a && b) ≡ true → b ≡ true
right true b e = e
right false b e = absurd (cc)

-- no more pass than there are
pub run_within : (p : ℕ → Bool) (bs : List ℕ) → run_len p bs ≤ length bs
run_within p [] = omega arith
run_within p (c ∷ cs) = step (p c) (run_len p cs) (run_within p cs)
  where
    step : (v : Bool) (n : ℕ) → n ≤ length cs → cond v (suc n) 0 ≤ suc (length cs)
    step true n le = omega arith
    step false n le = omega arith

-- the run from a place on, by whether the byte there passes
run_at : (p : ℕ → Bool) (bs : List ℕ) (i : ℕ) (v : Bool) → i < length bs → p (get_or bs i 0) ≡ v
    → run_len p (drop i bs) ≡ cond v (suc (run_len p (drop (i + 1) bs))) 0
run_at p bs i v lt e =
    let cut : drop i bs ≡ get_or bs i 0 ∷ drop (i + 1) bs = rw (add-one, drop-cons bs i 0) refl in
    ap (run_len p) cut ∙ ap (λ (b : Bool). cond b (suc (run_len p (drop (i + 1) bs))) 0) e

-- for `run_len`: where a byte passes the run goes on
pub run_goes : (p : ℕ → Bool) (bs : List ℕ) (i : ℕ) → i < length bs → p (get_or bs i 0) ≡ true → run_len p bs ≡ i + run_len p (drop i bs)
    → run_len p bs ≡ i + 1 + run_len p (drop (i + 1) bs)
run_goes p bs i lt e so_far = omega (arith, so_far, run_at p bs i true lt e)

-- where one doesn't it stops
pub run_stops : (p : ℕ → Bool) (bs : List ℕ) (i : ℕ) → i < length bs → p (get_or bs i 0) ≡ false → run_len p bs ≡ i + run_len p (drop i bs)
    → i ≡ run_len p bs
run_stops p bs i lt e so_far = omega (arith, so_far, run_at p bs i false lt e)

-- and at the end it is all
pub run_ends : (p : ℕ → Bool) (bs : List ℕ) (i : ℕ) → i ≤ length bs → length bs ≤ i → run_len p bs ≡ i + run_len p (drop i bs) → length bs ≡ run_len p bs
run_ends p bs i le end so_far = omega (arith, so_far, run_within p (drop i bs), length-drop i bs, le, end)

-- the run passes
pub run_passes : (p : ℕ → Bool) (bs : List ℕ) → list_all p (take (run_len p bs) bs) ≡ true
run_passes p [] = refl
run_passes p (c ∷ cs) = step (p c) refl (run_passes p cs)
  where
    step : (v : Bool) → p c ≡ v → list_all p (take (run_len p cs) cs) ≡ true → list_all p (take (cond v (suc (run_len p cs)) 0) (c ∷ cs)) ≡ true
    step true e h = rw e h
    step false e h = refl

-- and nothing longer does
pub run_most : (p : ℕ → Bool) (bs : List ℕ) (k : ℕ) → k ≤ length bs → list_all p (take k bs) ≡ true → k ≤ run_len p bs
run_most p bs zero le h = omega arith
run_most p [] (suc k) le h = absurd (omega arith)
run_most p (c ∷ cs) (suc k) le h =
    let at : p c ≡ true = left (p c) (list_all p (take k cs)) h in
    let more : k ≤ run_len p cs = run_most p cs k (omega arith) (right (p c) (list_all p (take k cs)) h) in
    rw at (omega arith)

goes_on_ascii : (c : ℕ) → goes_on c ≡ true → c < 128
goes_on_ascii c e = grind (arith, nat_tests)

letter_ascii : (c : ℕ) → is_letter c ≡ true → c < 128
letter_ascii c e = grind (arith, nat_tests)

all_ascii : (cs : List ℕ) → list_all goes_on cs ≡ true → IsAscii cs
all_ascii [] e i = lit< tt
all_ascii (c ∷ cs) e zero = goes_on_ascii c (left (goes_on c) (list_all goes_on cs) e)
all_ascii (c ∷ cs) e (suc i) = all_ascii cs (right (goes_on c) (list_all goes_on cs) e) i

word_ascii : (bs : List ℕ) → is_word bs ≡ true → IsAscii bs
word_ascii [] e i = absurd (cc)
word_ascii (c ∷ cs) e zero = letter_ascii c (left (is_letter c) (list_all goes_on cs) e)
word_ascii (c ∷ cs) e (suc i) = all_ascii cs (right (is_letter c) (list_all goes_on cs) e) i

-- a word is a text
pub word_utf8 : (bs : List ℕ) → is_word bs ≡ true → IsUtf8 bs
word_utf8 bs e = IsUtf8-from_ascii bs (word_ascii bs e)
