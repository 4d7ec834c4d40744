-- The value of digits, from left to right.
use Rattle.std.proofs.Common.{◌≡◌, ℕ, zero, suc, ◌+◌, ◌*◌, ◌^◌, ◌≤◌, ◌<◌, List, [], ◌∷◌, length, drop, get_or, Bool, true, refl, sym, ap, ◌∙◌, subst, arith, add-one, drop-cons}
use Rattle.std.specs.List.{list_all}
use Rattle.std.proofs.Math.Nat.{le-mul_of_pos_right}
use Rattle.mojom_lexer.specs.Bytes.{is_hex_digit}
use Rattle.mojom_lexer.specs.Numbers.{digit_value, value_from}
use Rattle.mojom_lexer.proofs.Runs.{left, right}

-- one digit more
pub step_at : (b : ℕ) (bs : List ℕ) (i v total : ℕ)
    → i < length bs → value_from b v (drop i bs) ≡ total → value_from b (v * b + digit_value (get_or bs i 0)) (drop (i + 1) bs) ≡ total
step_at b bs i v total lt e =
    let cut : drop i bs ≡ get_or bs i 0 ∷ drop (i + 1) bs = rw (add-one, drop-cons bs i 0) refl in
    sym (ap (value_from b v) cut) ∙ e

grows : (b : ℕ) (cs : List ℕ) (n : ℕ) → 0 < b → n ≤ value_from b n cs
grows b [] n lt = omega arith
grows b (c ∷ cs) n lt =
    let le : n * b + digit_value c ≤ value_from b (n * b + digit_value c) cs = grows b cs (n * b + digit_value c) lt in
    let m : n ≤ n * b = le-mul_of_pos_right {m = b} n lt in
    omega arith

-- a sum that is too large makes the whole so
pub large_at : (b : ℕ) (bs : List ℕ) (i v total : ℕ)
    → 0 < b → i < length bs → value_from b v (drop i bs) ≡ total → 2 ^ 64 ≤ v * b + digit_value (get_or bs i 0) → 2 ^ 64 ≤ total
large_at b bs i v total pos lt e big =
    let s = step_at b bs i v total lt e in
    let le : v * b + digit_value (get_or bs i 0) ≤ value_from b (v * b + digit_value (get_or bs i 0)) (drop (i + 1) bs) =
    grows b (drop (i + 1) bs) (v * b + digit_value (get_or bs i 0)) pos in
    subst (λ (n : ℕ). 2 ^ 64 ≤ n) s (omega arith)

-- a product that is too large makes the whole so
pub large_times : (b : ℕ) (bs : List ℕ) (i v total : ℕ) → 0 < b → i < length bs → value_from b v (drop i bs) ≡ total → 2 ^ 64 ≤ v * b → 2 ^ 64 ≤ total
large_times b bs i v total pos lt e big = large_at b bs i v total pos lt e (omega arith)

pub passes_at : (p : ℕ → Bool) (bs : List ℕ) (i : ℕ) → i < length bs → list_all p bs ≡ true → p (get_or bs i 0) ≡ true
passes_at p [] i lt e = absurd (omega arith)
passes_at p (c ∷ cs) zero lt e = left (p c) (list_all p cs) e
passes_at p (c ∷ cs) (suc i) lt e = passes_at p cs i (omega arith) (right (p c) (list_all p cs) e)

-- each of the digits is one
pub digit_at : (bs : List ℕ) (i : ℕ) → i < length bs → list_all is_hex_digit bs ≡ true → is_hex_digit (get_or bs i 0) ≡ true
digit_at bs i lt e = passes_at is_hex_digit bs i lt e
