-- The first of the numbers below a limit with which something is found.
use Rattle.std.proofs.Common.{◌≡◌, ℕ, ◌+◌, ◌<◌, ◌≤◌, length, get_or, refl, ◌∙◌, ap, arith}
use Rattle.std.specs.Prelude.{Bool, true, false, cond, Option, Some, None, is_some, find}
use Rattle.std.specs.List.{range_with_len}
use Rattle.std.specs.Option.{option_or}
use Rattle.std.proofs.lemmas.List.FromFn.{length-range_with_len, get_or-range_with_len}
use Rattle.std.proofs.lemmas.List.Recursion.{found_at, found_nowhere}
use Rattle.mojom_files.specs.Refusals.{first_of}

at : (n i : ℕ) → i < n → get_or (range_with_len 0 n) i 0 ≡ i
at n i lt = let e : 0 + i ≡ i = omega arith in get_or-range_with_len 0 n i 0 lt ∙ e

within : (n i : ℕ) → i < n → i < length (range_with_len 0 n)
within n i lt = rw (length-range_with_len 0 n) lt

-- what is false of each number below, of each place of the range
at_each : (p : ℕ → Bool) (n m : ℕ) → m ≤ n → ((k : ℕ) → k < m → p k ≡ false) → (k : ℕ) → k < m → p (get_or (range_with_len 0 n) k 0) ≡ false
at_each p n m le none k lt = let e : get_or (range_with_len 0 n) k 0 ≡ k = at n k (omega (arith, lt, le)) in ap p e ∙ none k lt

-- the first number that passes the test is found
pub find_found : (p : ℕ → Bool) (n i : ℕ) → i < n → ((k : ℕ) → k < i → p k ≡ false) → p i ≡ true → find p (range_with_len 0 n) ≡ Some i
find_found p n i lt none is =
    found_at (find p) p (λ (k : ℕ). Some k) None refl (λ _ _. refl) (range_with_len 0 n) i 0 (within n i lt)
    (at_each p n i (omega (arith, lt)) none) (ap p (at n i lt) ∙ is)
    ∙ ap (λ (k : ℕ). Some k) (at n i lt)

-- nothing is found where no number passes the test
pub find_nowhere : (p : ℕ → Bool) (n : ℕ) → ((k : ℕ) → k < n → p k ≡ false) → find p (range_with_len 0 n) ≡ None
find_nowhere p n none =
    found_nowhere (find p) p (λ (k : ℕ). Some k) None refl (λ _ _. refl) (range_with_len 0 n) 0
    (λ k lt. at_each p n n (omega arith) none k (rw (length-range_with_len 0 n) at lt))

or_cond : {A : Type 0} (one other : Option A) → option_or one other ≡ cond (is_some one) one other
or_cond None other = refl
or_cond (Some x) other = refl

none_is : {A : Type 0} (one : Option A) → one ≡ None → is_some one ≡ false
none_is one is = ap is_some is

-- the answer is that of the first number that has one
pub first_of_found : {A : Type 0} (look : ℕ → Option A) (n i : ℕ)
    → i < n → ((k : ℕ) → k < i → look k ≡ None) → is_some (look i) ≡ true
    → first_of look (range_with_len 0 n) ≡ look i
first_of_found look n i lt none is =
    found_at (first_of look) (λ (k : ℕ). is_some (look k)) look None refl (λ k ks. or_cond (look k) (first_of look ks)) (range_with_len 0 n)
    i 0 (within n i lt) (at_each (λ (k : ℕ). is_some (look k)) n i (omega (arith, lt)) (λ k less. none_is (look k) (none k less)))
    (ap (λ (k : ℕ). is_some (look k)) (at n i lt) ∙ is)
    ∙ ap look (at n i lt)

-- there is no answer where no number has one
pub first_of_nowhere : {A : Type 0} (look : ℕ → Option A) (n : ℕ) → ((k : ℕ) → k < n → look k ≡ None) → first_of look (range_with_len 0 n) ≡ None
first_of_nowhere look n none =
    found_nowhere (first_of look) (λ (k : ℕ). is_some (look k)) look None refl (λ k ks. or_cond (look k) (first_of look ks))
    (range_with_len 0 n) 0
    (λ k lt.
    at_each (λ (k : ℕ). is_some (look k)) n n (omega arith) (λ k less. none_is (look k) (none k less)) k
    (rw (length-range_with_len 0 n) at lt))
