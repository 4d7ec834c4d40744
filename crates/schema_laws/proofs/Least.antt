-- The least number that passes a test.
use Rattle.std.proofs.Common.{◌≡◌, ℕ, zero, suc, ◌<◌, ◌≤◌, refl, ◌∙◌, ap, inl, inr, arith}
use Rattle.std.specs.Prelude.{◌⊎◌, Bool, true, false}
use Rattle.std.proofs.Math.Nat.{eq-or-lt_of_le}
use Rattle.std.proofs.lemmas.Bool.{both_ways, cases_lt}

-- the number passes the test, and no smaller one does
pub record IsLeast (test : ℕ → Bool) (n : ℕ) : Type 0 where
  pub passes : test n ≡ true
  pub least : (other : ℕ) → test other ≡ true → n ≤ other

-- where none below passes the test, the one that does is the least
is_least : (test : ℕ → Bool) (n : ℕ) → ((k : ℕ) → k < n → test k ≡ false) → test n ≡ true → IsLeast test n
is_least test n none is = record {
  passes = is;
  least = λ other also. elim (cases_lt other n) [
    | inl lt ↦ absurd (both_ways (test other) (none other lt) also)
    | inr le ↦ le
  ];
}

none_more : (test : ℕ → Bool) (n : ℕ) → ((k : ℕ) → k < n → test k ≡ false) → test n ≡ false → (k : ℕ) → k < suc n → test k ≡ false
none_more test n none not_here k lt = elim (let le : k ≤ n = omega (arith, lt) in eq-or-lt_of_le le) [
  | inl same ↦ ap test same ∙ not_here
  | inr less ↦ none k less
]

-- some number below this one is the least, or none passes the test
least_below : (test : ℕ → Bool) (n : ℕ) → ((m : ℕ) × IsLeast test m) ⊎ ((k : ℕ) → k < n → test k ≡ false)
least_below test zero = inr (λ k lt. let bad : ⊥ = omega (arith, lt) in absurd bad)
least_below test (suc n) = go (least_below test n) (test n) refl
  where
    go : ((m : ℕ) × IsLeast test m) ⊎ ((k : ℕ) → k < n → test k ≡ false) → (here : Bool) → test n ≡ here
        → ((m : ℕ) × IsLeast test m) ⊎ ((k : ℕ) → k < suc n → test k ≡ false)
    go (inl found) here is = inl found
    go (inr none) true is = inl (n, is_least test n none is)
    go (inr none) false is = inr (none_more test n none is)

-- where a number passes the test, one is the least
pub some_least : (test : ℕ → Bool) (n : ℕ) → test n ≡ true → (m : ℕ) × IsLeast test m
some_least test n is = go (least_below test n)
  where
    go : ((m : ℕ) × IsLeast test m) ⊎ ((k : ℕ) → k < n → test k ≡ false) → (m : ℕ) × IsLeast test m
    go (inl found) = found
    go (inr none) = (n, is_least test n none is)
