-- How a number of a list is read, row by row.
use Rattle.std.proofs.Common.{◌≡◌, ℕ, ℤ, suc, ◌+◌, ◌<◌, ◌≤◌, List, ◌∷◌, length, map, drop, get_or, Bool, true}
use Rattle.std.proofs.Common.{cond, refl, sym, ap, ◌∙◌, arith, add-one, drop-cons}
use Rattle.std.specs.Prelude.{pos, negsuc, filter}
use Rattle.std.proofs.Common.{SFits, w32, ◌^◌}
use Rattle.std.proofs.lemmas.Int.{ints}
use lib.Signed.{mag}
use Rattle.std.proofs.lemmas.Bool.Decides.{nat_tests}
use Rattle.value_text.specs.Numbers.{is_int32, is_uint32}
use Rattle.byte_rules.specs.Among.{Near, nearer, nearest}

-- what an int32 and a uint32 are
pub is_small : (z : ℤ) → SFits w32 z → is_int32 z ≡ true
is_small (pos n) f = let l : n < 2 ^ 31 = omega (arith, ints, f) in grind (arith, nat_tests)
is_small (negsuc n) f = let l : n < 2 ^ 31 = omega (arith, ints, f) in grind (arith, nat_tests)

pub fits_int32 : (z : ℤ) → suc (mag z) ≤ 2147483648 → SFits w32 z
fits_int32 z h = record { sfits = h }

pub is_small_tag : (n : ℕ) → n < 2 ^ 32 → is_uint32 n ≡ true
is_small_tag n l = grind (arith, nat_tests)

-- rows that are still to be looked at
module _ {R A : Type 0} (of : R → A) (test : A → Bool) (spelled : A → List ℕ) (other : A) where
  abbrev pub numbers_in : List R → List A
  numbers_in rows = filter test (map of rows)

  rows_at : (rows : List R) (i : ℕ) (row : R) → i < length rows → row ≡ get_or rows i row → test (of row) ≡ true
      → numbers_in (drop i rows) ≡ of row ∷ numbers_in (drop (i + 1) rows)
  rows_at rows i row lt e t =
      let cut : drop i rows ≡ get_or rows i row ∷ drop (i + 1) rows = rw (add-one, drop-cons rows i row) refl in
      ap numbers_in cut ∙ ap (λ (r : R). cond (test (of r)) (of r ∷ numbers_in (drop (i + 1) rows)) (numbers_in (drop (i + 1) rows))) (sym e) ∙ rw t refl

  -- one row more
  pub row_on : (rows : List R) (i : ℕ) (row : R) (number : A) (word bs : List ℕ) (near new total : Near A) → i < length rows → row ≡ get_or rows i row
      → number ≡ of row → test number ≡ true → word ≡ spelled number → new ≡ nearer word bs number near
      → nearest spelled bs near (numbers_in (drop i rows)) ≡ total → nearest spelled bs new (numbers_in (drop (i + 1) rows)) ≡ total
  row_on rows i row number word bs near new total lt e n t w is so_far =
      let cut = rows_at rows i row lt e (ap test (sym n) ∙ t) in
      ap (λ (near : Near A). nearest spelled bs near (numbers_in (drop (i + 1) rows)))
      (is ∙ ap (λ (w : List ℕ). nearer w bs number near) w ∙ ap (λ (a : A). nearer (spelled a) bs a near) n)
      ∙ sym (ap (nearest spelled bs near) cut) ∙ so_far
