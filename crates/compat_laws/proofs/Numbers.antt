-- Numbers as they rise, each once: all are there, and no others.
use Rattle.std.proofs.Common.{◌≡◌, ◌⊎◌, ℕ, inl, inr, List, [], ◌∷◌, refl, sym, subst}
use Rattle.std.specs.Prelude.{ℤ}
use Rattle.std.specs.BTreeSet.{insert_key}
use Rattle.std.specs.List.{fold}
use Rattle.std.specs.Ordering.{int_cmp, match_ordering, nat_cmp}
use Rattle.std.specs.declared.cmp.Ordering.{Ordering}
use Rattle.std.specs.declared.cmp.Ordering.TheVariants.{Less, Equal, Greater}
use Rattle.std.proofs.lemmas.Cmp.{int_ranked, ranked}
use Rattle.compat_model.specs.steps.Among.{IsAmong}
use Rattle.compat_model.specs.Members.{rising, rising_signed}

-- where keys that compare alike are one
module _ {K : Type 0} (cmp : K → K → Ordering) (one : (a b : K) → cmp a b ≡ Equal → a ≡ b) where
  own_place : (k x : K) (xs : List K) (o : Ordering) → cmp k x ≡ o → IsAmong (insert_key cmp xs k) k
      → IsAmong (match_ordering o (k ∷ x ∷ xs) (x ∷ xs) (x ∷ insert_key cmp xs k)) k
  own_place k x xs Less e go = inl refl
  own_place k x xs Equal e go = inl (sym (one k x e))
  own_place k x xs Greater e go = inr go

  -- a key that is put in is there
  put_in : (xs : List K) (k : K) → IsAmong (insert_key cmp xs k) k
  put_in [] k = inl refl
  put_in (x ∷ xs) k = own_place k x xs (cmp k x) refl (put_in xs k)

  other_place : (k x z : K) (xs : List K) (o : Ordering) → (x ≡ z) ⊎ IsAmong xs z → (IsAmong xs z → IsAmong (insert_key cmp xs k) z)
      → IsAmong (match_ordering o (k ∷ x ∷ xs) (x ∷ xs) (x ∷ insert_key cmp xs k)) z
  other_place k x z xs Less h go = inr h
  other_place k x z xs Equal h go = h
  other_place k x z xs Greater (inl e) go = inl e
  other_place k x z xs Greater (inr h) go = inr (go h)

  -- those that were there stay
  kept_in : (xs : List K) (k z : K) → IsAmong xs z → IsAmong (insert_key cmp xs k) z
  kept_in [] k z h = absurd h
  kept_in (x ∷ xs) k z h = other_place k x z xs (cmp k x) h (kept_in xs k z)

  -- so all are there in the end
  pub all_in : (start ks : List K) (z : K) → IsAmong start z ⊎ IsAmong ks z → IsAmong (fold (insert_key cmp) start ks) z
  all_in start [] z (inl h) = h
  all_in start [] z (inr h) = absurd h
  all_in start (k ∷ ks) z (inl h) = all_in (insert_key cmp start k) ks z (inl (kept_in start k z h))
  all_in start (k ∷ ks) z (inr (inl e)) =
      all_in (insert_key cmp start k) ks z (inl (subst (λ (x : K). IsAmong (insert_key cmp start k) x) e (put_in start k)))
  all_in start (k ∷ ks) z (inr (inr h)) = all_in (insert_key cmp start k) ks z (inr h)

module _ {K : Type 0} (cmp : K → K → Ordering) where
  from_place : (k x z : K) (xs : List K) (o : Ordering) → (IsAmong (insert_key cmp xs k) z → (k ≡ z) ⊎ IsAmong xs z)
      → IsAmong (match_ordering o (k ∷ x ∷ xs) (x ∷ xs) (x ∷ insert_key cmp xs k)) z → (k ≡ z) ⊎ IsAmong (x ∷ xs) z
  from_place k x z xs Less go h = h
  from_place k x z xs Equal go h = inr h
  from_place k x z xs Greater go (inl e) = inr (inl e)
  from_place k x z xs Greater go (inr h) = later (go h)
    where
      later : (k ≡ z) ⊎ IsAmong xs z → (k ≡ z) ⊎ IsAmong (x ∷ xs) z
      later (inl e) = inl e
      later (inr g) = inr (inr g)

  -- what is there was put in, or was there
  put_from : (xs : List K) (k z : K) → IsAmong (insert_key cmp xs k) z → (k ≡ z) ⊎ IsAmong xs z
  put_from [] k z h = h
  put_from (x ∷ xs) k z h = from_place k x z xs (cmp k x) (put_from xs k z) h

  one_from : (start ks : List K) (k z : K) → (k ≡ z) ⊎ IsAmong start z → IsAmong start z ⊎ IsAmong (k ∷ ks) z
  one_from start ks k z (inl e) = inr (inl e)
  one_from start ks k z (inr h) = inl h

  -- so each was there at the start or is one of the keys
  all_from : (start ks : List K) (z : K) → IsAmong (fold (insert_key cmp) start ks) z → IsAmong start z ⊎ IsAmong ks z
  all_from start [] z h = inl h
  all_from start (k ∷ ks) z h = earlier (all_from (insert_key cmp start k) ks z h)
    where
      earlier : IsAmong (insert_key cmp start k) z ⊎ IsAmong ks z → IsAmong start z ⊎ IsAmong (k ∷ ks) z
      earlier (inl g) = one_from start ks k z (put_from start k z g)
      earlier (inr g) = inr (inr g)

  keys_from : (ks : List K) (z : K) → IsAmong (fold (insert_key cmp) [] ks) z → IsAmong ks z
  keys_from ks z h = only (all_from [] ks z h)
    where
      only : IsAmong {A = K} [] z ⊎ IsAmong ks z → IsAmong ks z
      only (inl never) = absurd never
      only (inr g) = g

one_number : (a b : ℕ) → nat_cmp a b ≡ Equal → a ≡ b
one_number a b e = ranked a b Equal (sym e)

one_signed : (a b : ℤ) → int_cmp a b ≡ Equal → a ≡ b
one_signed a b e = int_ranked a b Equal (sym e)

pub rising_has : (ns : List ℕ) (n : ℕ) → IsAmong ns n → IsAmong (rising ns) n
rising_has ns n h = all_in nat_cmp one_number [] ns n (inr h)

pub rising_signed_has : (ns : List ℤ) (n : ℤ) → IsAmong ns n → IsAmong (rising_signed ns) n
rising_signed_has ns n h = all_in int_cmp one_signed [] ns n (inr h)

pub rising_from : (ns : List ℕ) (n : ℕ) → IsAmong (rising ns) n → IsAmong ns n
rising_from ns n h = keys_from nat_cmp ns n h

pub rising_signed_from : (ns : List ℤ) (n : ℤ) → IsAmong (rising_signed ns) n → IsAmong ns n
rising_signed_from ns n h = keys_from int_cmp ns n h
