-- Reading a list of a rule in a loop, gathered as one goes.
use Rattle.std.proofs.Common.{◌≡◌, ℕ, zero, suc, ◌-◌, ◌+◌, ◌≤◌, ◌<◌, List, [], ◌∷◌, Ok, Err, true, false, ◌==◌, refl, sym, ap, ◌∙◌, arith}
use Rattle.byte_rules.specs.declared.stop.Stop.{Stop}
use Rattle.byte_rules.specs.declared.stop.Stop.TheVariants as stops
use Rattle.byte_rules.specs.Lang.{Lang, Read, ◌>>=◌, front_is, byte, closed, as_value, ◌then◌, ◌▸◌, until, rest_of}
use Rattle.byte_rules.specs.Reading.{Fails}
use Rattle.byte_rules.specs.steps.Reading.{gathered}

module _ {A F : Type 0} (add : F → List A → F) (nothing : (front : F) → add front [] ≡ front)
    (one_more : (front : F) (x : A) (xs : List A) → add front (x ∷ xs) ≡ add (add front (x ∷ [])) xs) (c : ℕ) (one : Lang A) where
  regroup : (front : F) (x : A) (read : Read (List A)) → gathered add front (read >>= λ y. Ok (x ∷ y.0, y.1)) ≡ gathered add (add front (x ∷ [])) read
  regroup front x (Ok y) = ap (λ (f : F). Ok (f, y.1)) (one_more front x y.0)
  regroup front x (Err f) = refl

  step : (n : ℕ) (ts : List ℕ) → front_is (λ b. b == c) ts ≡ false
      → (until c (suc n) one).read ts ≡ (one then λ x. as_value (λ xs. x ∷ xs) (until c n one)).read ts
  unfolding until
  step n ts e = rw e refl

  -- one more
  pub goes_on : (front : F) (count i : ℕ) (ts : List ℕ) (x : A) (next : List ℕ) (total : Read F) → i < count → front_is (λ b. b == c) ts ≡ false
      → one.read ts ≡ Ok (x, next) → gathered add front ((until c (count - i) one).read ts) ≡ total
      → gathered add (add front (x ∷ [])) ((until c (count - (i + 1)) one).read next) ≡ total
  goes_on front count i ts x next total lt e r so_far =
      let k : count - i ≡ suc (count - (i + 1)) = omega arith in
      let here : (one then λ x. as_value (λ xs. x ∷ xs) (until c (count - (i + 1)) one)).read ts
      ≡ ((until c (count - (i + 1)) one).read next >>= λ y. Ok (x ∷ y.0, y.1)) = rw r refl in
      sym (regroup front x ((until c (count - (i + 1)) one).read next)) ∙ ap (gathered add front) (sym here)
      ∙ ap (gathered add front) (sym (step (count - (i + 1)) ts e)) ∙ ap (λ (n : ℕ). gathered add front ((until c n one).read ts)) (sym k)
      ∙ so_far

  -- none more, where there is neither one nor the end
  pub ends : (e : Stop) (front : F) (count i : ℕ) (ts : List ℕ) (total : Read F) → i < count → front_is (λ b. b == c) ts ≡ false
      → Fails e (one.read ts) → gathered add front ((until c (count - i) one).read ts) ≡ total → Fails e total
  ends stops.Memory front count i ts total lt e r so_far = tt
  ends (stops.Left n) front count i ts total lt e r so_far =
      let k : count - i ≡ suc (count - (i + 1)) = omega arith in
      let here : (one then λ x. as_value (λ xs. x ∷ xs) (until c (count - (i + 1)) one)).read ts ≡ Err n = rw r refl in
      sym so_far ∙ ap (λ (n : ℕ). gathered add front ((until c n one).read ts)) k
      ∙ ap (gathered add front) (step (count - (i + 1)) ts e ∙ here)

  closing : (n : ℕ) (ts : List ℕ) → front_is (λ b. b == c) ts ≡ true → (until c n one).read ts ≡ (closed {A = List A} c []).read ts
  unfolding until
  closing zero ts e = refl
  closing (suc n) ts e = rw e refl

  closed_front : (front : F) (ts : List ℕ) (r : Read ℕ) → (byte c).read ts ≡ r
      → gathered add front ((closed {A = List A} c []).read ts) ≡ (r >>= λ x. Ok (front, x.1))
  closed_front front ts (Ok x) e = ap (λ (r : Read ℕ). gathered add front (r >>= λ x. Ok ([], x.1))) e ∙ ap (λ (f : F). Ok (f, x.1)) (nothing front)
  closed_front front ts (Err n) e = ap (λ (r : Read ℕ). gathered add front (r >>= λ x. Ok ([], x.1))) e

  halts : (front : F) (count i : ℕ) (ts : List ℕ) (total : Read F) → front_is (λ b. b == c) ts ≡ true
      → gathered add front ((until c (count - i) one).read ts) ≡ total → total ≡ ((byte c).read ts >>= λ x. Ok (front, x.1))
  halts front count i ts total e so_far =
      sym so_far ∙ ap (gathered add front) (closing (count - i) ts e) ∙ closed_front front ts ((byte c).read ts) refl

  none_left : (n : ℕ) (ts : List ℕ) → n ≡ zero → (until c n one).read ts ≡ (closed {A = List A} c []).read ts
  unfolding until
  none_left zero ts e = refl
  none_left (suc n) ts e = absurd (cc)

  is_done : (front : F) (count i : ℕ) (ts : List ℕ) (total : Read F) → count ≤ i → gathered add front ((until c (count - i) one).read ts) ≡ total
      → total ≡ ((byte c).read ts >>= λ x. Ok (front, x.1))
  is_done front count i ts total le so_far =
      sym so_far ∙ ap (gathered add front) (none_left (count - i) ts (omega arith)) ∙ closed_front front ts ((byte c).read ts) refl

  -- the end
  pub halts_ok : (front : F) (count i : ℕ) (ts rest : List ℕ) (b : ℕ) (total : Read F) → front_is (λ b. b == c) ts ≡ true
      → (byte c).read ts ≡ Ok (b, rest) → gathered add front ((until c (count - i) one).read ts) ≡ total → total ≡ Ok (front, rest)
  halts_ok front count i ts rest b total e r so_far = halts front count i ts total e so_far ∙ ap (λ (r : Read ℕ). r >>= λ x. Ok (front, x.1)) r

  -- as many as there are bytes
  pub done_ok : (front : F) (count i : ℕ) (ts rest : List ℕ) (b : ℕ) (total : Read F) → count ≤ i → (byte c).read ts ≡ Ok (b, rest)
      → gathered add front ((until c (count - i) one).read ts) ≡ total → total ≡ Ok (front, rest)
  done_ok front count i ts rest b total le r so_far = is_done front count i ts total le so_far ∙ ap (λ (r : Read ℕ). r >>= λ x. Ok (front, x.1)) r

  pub done_err : (e : Stop) (front : F) (count i : ℕ) (ts : List ℕ) (total : Read F) → count ≤ i → Fails e ((byte c).read ts)
      → gathered add front ((until c (count - i) one).read ts) ≡ total → Fails e total
  done_err stops.Memory front count i ts total le r so_far = tt
  done_err (stops.Left n) front count i ts total le r so_far =
      is_done front count i ts total le so_far ∙ ap (λ (r : Read ℕ). r >>= λ x. Ok (front, x.1)) r

  -- the same with exactly so many
  regrouped : {B C : Type 0} (one : Lang B) (f : B → Lang C) (ts : List ℕ) → (44 ▸ one then f).read ts ≡ ((44 ▸ one).read ts >>= λ x. (f x.0).read x.1)
  regrouped {B} {C} one f ts = of ((byte 44).read ts)
    where
      of : (r : Read ℕ) → (r >>= λ x. (one.read x.1 >>= λ y. (f y.0).read y.1)) ≡ ((r >>= λ x. one.read x.1) >>= λ x. (f x.0).read x.1)
      of (Ok x) = refl
      of (Err n) = refl

  one_of : (n : ℕ) (ts : List ℕ) → (rest_of c (suc n) one).read ts ≡ ((44 ▸ one).read ts >>= λ x. (as_value (λ xs. x.0 ∷ xs) (rest_of c n one)).read x.1)
  unfolding rest_of
  one_of n ts = regrouped one (λ x. as_value (λ xs. x ∷ xs) (rest_of c n one)) ts

  pub goes_exactly : (front : F) (count i : ℕ) (ts : List ℕ) (x : A) (next : List ℕ) (total : Read F) → i < count
      → (44 ▸ one).read ts ≡ Ok (x, next) → gathered add front ((rest_of c (count - i) one).read ts) ≡ total
      → gathered add (add front (x ∷ [])) ((rest_of c (count - (i + 1)) one).read next) ≡ total
  goes_exactly front count i ts x next total lt r so_far =
      let n = count - (i + 1) in
      let k : count - i ≡ suc n = omega arith in
      let here : (rest_of c (suc n) one).read ts ≡ ((rest_of c n one).read next >>= λ y. Ok (x ∷ y.0, y.1)) =
      one_of n ts ∙ ap (λ (r : Read A). r >>= λ x. (as_value (λ xs. x.0 ∷ xs) (rest_of c n one)).read x.1) r in
      sym (regroup front x ((rest_of c n one).read next)) ∙ ap (gathered add front) (sym here)
      ∙ ap (λ (n : ℕ). gathered add front ((rest_of c n one).read ts)) (sym k) ∙ so_far

  pub ends_exactly : (e : Stop) (front : F) (count i : ℕ) (ts : List ℕ) (total : Read F) → i < count → Fails e ((44 ▸ one).read ts)
      → gathered add front ((rest_of c (count - i) one).read ts) ≡ total → Fails e total
  ends_exactly stops.Memory front count i ts total lt r so_far = tt
  ends_exactly (stops.Left m) front count i ts total lt r so_far =
      let n = count - (i + 1) in
      let k : count - i ≡ suc n = omega arith in
      let here : (rest_of c (suc n) one).read ts ≡ Err m =
      one_of n ts ∙ ap (λ (r : Read A). r >>= λ x. (as_value (λ xs. x.0 ∷ xs) (rest_of c n one)).read x.1) r in
      sym so_far ∙ ap (λ (n : ℕ). gathered add front ((rest_of c n one).read ts)) k ∙ ap (gathered add front) here

  no_rest : (n : ℕ) (ts : List ℕ) → n ≡ zero → (rest_of c n one).read ts ≡ (closed {A = List A} c []).read ts
  unfolding rest_of
  no_rest zero ts e = refl
  no_rest (suc n) ts e = absurd (cc)

  all_read : (front : F) (count i : ℕ) (ts : List ℕ) (total : Read F) → count ≤ i → gathered add front ((rest_of c (count - i) one).read ts) ≡ total
      → total ≡ ((byte c).read ts >>= λ x. Ok (front, x.1))
  all_read front count i ts total le so_far =
      sym so_far ∙ ap (gathered add front) (no_rest (count - i) ts (omega arith)) ∙ closed_front front ts ((byte c).read ts) refl

  pub exactly_ok : (front : F) (count i : ℕ) (ts rest : List ℕ) (b : ℕ) (total : Read F) → count ≤ i → (byte c).read ts ≡ Ok (b, rest)
      → gathered add front ((rest_of c (count - i) one).read ts) ≡ total → total ≡ Ok (front, rest)
  exactly_ok front count i ts rest b total le r so_far = all_read front count i ts total le so_far ∙ ap (λ (r : Read ℕ). r >>= λ x. Ok (front, x.1)) r

  pub exactly_err : (e : Stop) (front : F) (count i : ℕ) (ts : List ℕ) (total : Read F) → count ≤ i → Fails e ((byte c).read ts)
      → gathered add front ((rest_of c (count - i) one).read ts) ≡ total → Fails e total
  exactly_err stops.Memory front count i ts total le r so_far = tt
  exactly_err (stops.Left n) front count i ts total le r so_far =
      all_read front count i ts total le so_far ∙ ap (λ (r : Read ℕ). r >>= λ x. Ok (front, x.1)) r
