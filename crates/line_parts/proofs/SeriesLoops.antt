-- Reading a series in a loop, with what was read before in front.
use Rattle.std.proofs.Common.{◌≡◌, ℕ, zero, suc, ◌-◌, ◌+◌, ◌≤◌, ◌<◌, ◌⊎◌, inl, inr, List, [], ◌∷◌, Ok, Err, Bool, true, false, refl, sym, ap, ◌∙◌, arith}
use Rattle.byte_rules.specs.declared.stop.Stop.{Stop}
use Rattle.byte_rules.specs.declared.stop.Stop.TheVariants as stops
use Rattle.byte_rules.specs.Lang.{Lang, Read, ◌>>=◌, front_is, as_value, ◌then◌}
use Rattle.byte_rules.specs.Reading.{Fails}
use Rattle.line_parts.specs.Series.{in_front, at_most}
use Rattle.line_parts.specs.steps.Reading.{gathered}

module _ {S A B F : Type 0} (add : F → List A → F) (nothing : (front : F) → add front [] ≡ front)
    (one_more : (front : F) (x : A) (xs : List A) → add front (x ∷ xs) ≡ add (add front (x ∷ [])) xs)
    (ends : ℕ → Bool) (one : S → Lang A) (next : S → A → S) (last : Lang B) where
  -- at most so many
  abbrev upto : ℕ → S → Lang (List A × B)
  upto n s = at_most ends one next last n s

  regroup : (front : F) (x : A) (read : Read (List A × B))
      → gathered add front (read >>= λ y. Ok (in_front x y.0, y.1)) ≡ gathered add (add front (x ∷ [])) read
  regroup front x (Ok y) = ap (λ (f : F). Ok ((f, y.0.1), y.1)) (one_more front x y.0.0)
  regroup front x (Err f) = refl

  step : (n : ℕ) (s : S) (ts : List ℕ) → front_is ends ts ≡ false
      → (upto (suc n) s).read ts ≡ (one s then λ x. as_value (in_front x) (upto n (next s x))).read ts
  unfolding at_most
  step n s ts e = rw e refl

  -- one more
  pub goes_on : (front : F) (count i : ℕ) (s : S) (ts : List ℕ) (x : A) (rest : List ℕ) (total : Read (F × B)) → i < count → front_is ends ts ≡ false
      → (one s).read ts ≡ Ok (x, rest) → gathered add front ((upto (count - i) s).read ts) ≡ total
      → gathered add (add front (x ∷ [])) ((upto (count - (i + 1)) (next s x)).read rest) ≡ total
  goes_on front count i s ts x rest total lt e r so_far =
      let n = count - (i + 1) in
      let k : count - i ≡ suc n = omega arith in
      let here : (one s then λ x. as_value (in_front x) (upto n (next s x))).read ts ≡ ((upto n (next s x)).read rest >>= λ y. Ok (in_front x y.0, y.1)) =
      rw r refl in
      sym (regroup front x ((upto n (next s x)).read rest)) ∙ ap (gathered add front) (sym here) ∙ ap (gathered add front) (sym (step n s ts e))
      ∙ ap (λ (n : ℕ). gathered add front ((upto n s).read ts)) (sym k) ∙ so_far

  -- none more, where there is neither one nor the end
  pub breaks : (e : Stop) (front : F) (count i : ℕ) (s : S) (ts : List ℕ) (total : Read (F × B)) → i < count → front_is ends ts ≡ false
      → Fails e ((one s).read ts) → gathered add front ((upto (count - i) s).read ts) ≡ total → Fails e total
  breaks stops.Memory front count i s ts total lt e r so_far = tt
  breaks (stops.Left l) front count i s ts total lt e r so_far =
      let n = count - (i + 1) in
      let k : count - i ≡ suc n = omega arith in
      let here : (one s then λ x. as_value (in_front x) (upto n (next s x))).read ts ≡ Err l = rw r refl in
      sym so_far ∙ ap (λ (n : ℕ). gathered add front ((upto n s).read ts)) k ∙ ap (gathered add front) (step n s ts e ∙ here)

  -- the end, or as many as there may be
  closing : (n : ℕ) (s : S) (ts : List ℕ) → (n ≡ zero) ⊎ (front_is ends ts ≡ true) → (upto n s).read ts ≡ (last.read ts >>= λ y. Ok (([], y.0), y.1))
  unfolding at_most
  closing zero s ts h = refl
  closing (suc n) s ts (inl h) = absurd (cc)
  closing (suc n) s ts (inr e) = rw e refl

  at_end : (count i : ℕ) (ts : List ℕ) → (count ≤ i) ⊎ (front_is ends ts ≡ true) → (count - i ≡ zero) ⊎ (front_is ends ts ≡ true)
  at_end count i ts (inl le) = inl (omega arith)
  at_end count i ts (inr e) = inr e

  pub halts : (front : F) (count i : ℕ) (s : S) (ts : List ℕ) (total : Read (F × B)) → (count ≤ i) ⊎ (front_is ends ts ≡ true)
      → gathered add front ((upto (count - i) s).read ts) ≡ total → total ≡ (last.read ts >>= λ y. Ok ((front, y.0), y.1))
  halts front count i s ts total h so_far =
      sym so_far ∙ ap (gathered add front) (closing (count - i) s ts (at_end count i ts h)) ∙ of (last.read ts)
    where
      of : (r : Read B) → gathered add front (r >>= λ y. Ok (([], y.0), y.1)) ≡ (r >>= λ y. Ok ((front, y.0), y.1))
      of (Ok y) = ap (λ (f : F). Ok ((f, y.0), y.1)) (nothing front)
      of (Err n) = refl
