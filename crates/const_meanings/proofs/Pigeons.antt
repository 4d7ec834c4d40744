-- More steps than places come to one place twice.
use Rattle.std.proofs.Common.{◌≡◌, ℕ, zero, suc, ◌<◌, ◌≤◌, refl, sym, ◌∙◌, ap, subst, inl, inr, arith}
use Rattle.std.specs.Prelude.{◌⊎◌}
use Rattle.std.proofs.Math.Nat.{eq-or-lt_of_le}

-- two steps that come to one place
pub record Twice (f : ℕ → ℕ) (n : ℕ) : Type 0 where
  pub one : ℕ
  pub two : ℕ
  pub before : one < two
  pub within : two ≤ n
  pub same : f one ≡ f two

-- a step that comes to this place
record Meets (f : ℕ → ℕ) (n place : ℕ) : Type 0 where
  pub step : ℕ
  pub before : step < n
  pub there : f step ≡ place

equal_or : (a b : ℕ) → (a ≡ b) ⊎ (a ≡ b → ⊥)
equal_or zero zero = inl refl
equal_or zero (suc b) = inr (λ e. omega arith)
equal_or (suc a) zero = inr (λ e. omega arith)
equal_or (suc a) (suc b) = elim (equal_or a b) [ inl e ↦ inl (ap suc e) | inr ne ↦ inr (λ e. ne (omega arith)) ]

look : (f : ℕ → ℕ) (n place : ℕ) → Meets f n place ⊎ ((k : ℕ) → k < n → f k ≡ place → ⊥)
look f zero place = inr (λ k lt e. omega arith)
look f (suc n) place =
    elim (equal_or (f n) place) [
      | inl e ↦ inl (record { step = n; before = omega arith; there = e })
      | inr ne ↦ elim (look f n place) [
        | inl m ↦ inl (record { step = m.step; before = omega (arith, m.before); there = m.there })
        | inr fresh ↦ inr (λ k lt e. elim (let le : k ≤ n = omega arith in
            eq-or-lt_of_le le) [ inl same ↦ ne (subst (λ (j : ℕ). f j ≡ place) same e) | inr less ↦ fresh k less e ])
      ]
    ]

-- where a step came to the place m, the last step's place stands for it
other : (f : ℕ → ℕ) (m k : ℕ) → (f k ≡ m) ⊎ (f k ≡ m → ⊥) → ℕ
other f m k (inl e) = f (suc m)
other f m k (inr ne) = f k

abbrev moved : (ℕ → ℕ) → ℕ → ℕ → ℕ
moved f m k = other f m k (equal_or (f k) m)

pub twice : (n : ℕ) (f : ℕ → ℕ) → ((k : ℕ) → k ≤ n → f k < n) → Twice f n
unfolding other
twice zero f within = let h = within 0 (omega arith) in let bad : ⊥ = omega arith in absurd bad
twice (suc m) f within =
    elim (look f (suc m) (f (suc m))) [
      | inl e ↦ record { one = e.step; two = suc m; before = e.before; within = omega arith; same = e.there }
      | inr fresh ↦ back fresh (twice m (moved f m) (small fresh))
    ]
  where
    small_at : (k : ℕ) → k ≤ m → (f (suc m) ≡ f k → ⊥) → (d : (f k ≡ m) ⊎ (f k ≡ m → ⊥)) → other f m k d < m
    small_at k le fresh (inl e) = let a = within (suc m) (omega arith) in
        elim (equal_or (f (suc m)) m) [
          | inl g ↦ absurd (fresh (g ∙ sym e))
          | inr ne ↦ elim (let le : f (suc m) ≤ m = omega arith in eq-or-lt_of_le le) [ inl g ↦ absurd (ne g) | inr lt ↦ lt ]
        ]
    small_at k le fresh (inr ne) = let a = within k (omega arith) in
        elim (let le : f k ≤ m = omega arith in eq-or-lt_of_le le) [ inl g ↦ absurd (ne g) | inr lt ↦ lt ]

    small : ((k : ℕ) → k < suc m → f k ≡ f (suc m) → ⊥) → (k : ℕ) → k ≤ m → moved f m k < m
    small fresh k le = small_at k le (λ e. fresh k (omega arith) (sym e)) (equal_or (f k) m)

    same_at : (a b : ℕ) → a ≤ m → b ≤ m → ((k : ℕ) → k < suc m → f k ≡ f (suc m) → ⊥)
        → (d : (f a ≡ m) ⊎ (f a ≡ m → ⊥)) (e : (f b ≡ m) ⊎ (f b ≡ m → ⊥)) → other f m a d ≡ other f m b e → f a ≡ f b
    same_at a b la lb fresh (inl x) (inl y) e = x ∙ sym y
    same_at a b la lb fresh (inl x) (inr y) e = absurd (fresh b (omega arith) (sym e))
    same_at a b la lb fresh (inr x) (inl y) e = absurd (fresh a (omega arith) e)
    same_at a b la lb fresh (inr x) (inr y) e = e

    back : ((k : ℕ) → k < suc m → f k ≡ f (suc m) → ⊥) → Twice (moved f m) m → Twice f (suc m)
    back fresh t = let lt = t.before in let le = t.within in
        record {
          one = t.one;
          two = t.two;
          before = t.before;
          within = omega arith;
          same = same_at t.one t.two (omega arith) (omega arith) fresh (equal_or (f t.one) m) (equal_or (f t.two) m) t.same;
        }
