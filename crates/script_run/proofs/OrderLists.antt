-- What a filter keeps, and what stands where in it.
use Rattle.std.proofs.Common.{◌≡◌, ◌<◌, ℕ, zero, suc, Bool, true, false, List, [], ◌∷◌, length, refl, sym, ap, ◌∙◌, subst, arith}
use Rattle.std.specs.Prelude.{cond, filter, find, Some, slice_get}
use Rattle.std.specs.List.{AllByRecursion}
use Rattle.std.proofs.lemmas.Bool.{false≢true}
use Rattle.std.proofs.lemmas.List.Elements.{All-filter, All-from_recursion, filter_passes}
use Rattle.std.proofs.lemmas.Option.{get_or_from_slice_get, slice_get_within}

module _ {A : Type 0} (p : A → Bool) where
  -- what it keeps passes the test
  pub kept_passes : (xs : List A) (k : ℕ) (x : A) → slice_get (filter p xs) k ≡ Some x → p x ≡ true
  kept_passes xs k x e = subst (λ (z : A). p z ≡ true) (get_or_from_slice_get (filter p xs) k x x e)
      (filter_passes p xs k x (slice_get_within (filter p xs) k x e))

  -- and is one of the list
  pub kept_holds : (P : A → Type 0) (xs : List A) → AllByRecursion P xs → (k : ℕ) (x : A) → slice_get (filter p xs) k ≡ Some x → P x
  kept_holds P xs all k x e = subst P (get_or_from_slice_get (filter p xs) k x x e)
      (All-filter p P xs (All-from_recursion P xs all) k x (slice_get_within (filter p xs) k x e))

  -- where one passes, something is kept
  pub some_kept : (xs : List A) (k : ℕ) (x : A) → slice_get xs k ≡ Some x → p x ≡ true → 0 < length (filter p xs)
  some_kept [] k x e h = absurd cc
  some_kept (y ∷ ys) k x e h = go (p y) refl k e (λ i f. some_kept ys i x f h)
    where
      go : (b : Bool) → p y ≡ b → (i : ℕ) → slice_get (y ∷ ys) i ≡ Some x
          → ((j : ℕ) → slice_get ys j ≡ Some x → 0 < length (filter p ys)) → 0 < length (cond b (y ∷ filter p ys) (filter p ys))
      go true f i g others = omega arith
      go false f zero g others = let same : y ≡ x = cc in absurd (false≢true (sym f ∙ (ap p same ∙ h)))
      go false f (suc i) g others = others i g

  -- what is found passes the test
  pub found_passes : (xs : List A) (x : A) → find p xs ≡ Some x → p x ≡ true
  found_passes [] x e = absurd cc
  found_passes (y ∷ ys) x e = go (p y) refl e (found_passes ys x)
    where
      go : (b : Bool) → p y ≡ b → cond b (Some y) (find p ys) ≡ Some x → (find p ys ≡ Some x → p x ≡ true) → p x ≡ true
      go true f g others = let same : y ≡ x = cc in subst (λ (z : A). p z ≡ true) same f
      go false f g others = others g

  -- two tests that agree on a list keep the same of it
  pub same_kept : (q : A → Bool) (P : A → Type 0) → ((x : A) → P x → p x ≡ q x) → (xs : List A) → AllByRecursion P xs → filter p xs ≡ filter q xs
  same_kept q P agree [] all = refl
  same_kept q P agree (x ∷ xs) all =
      ap (λ (b : Bool). cond b (x ∷ filter p xs) (filter p xs)) (agree x all.0)
      ∙ ap (λ (ys : List A). cond (q x) (x ∷ ys) ys) (same_kept q P agree xs all.1)
