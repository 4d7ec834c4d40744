-- Items of which none stands twice: what their order shows.
use Rattle.std.proofs.Common.{◌≡◌, ℕ, ◌+◌, ◌<◌, Bool, true, false, List, [], ◌∷◌, length, get_or, refl, sym, subst, ap, arith}
use Rattle.std.specs.Prelude.{◌↔◌, IsTrue}
use Rattle.std.specs.Cmp.{IsTotalOrder}
use Rattle.std.specs.List.{AllAdjacentBelow, IsAllAdjacentAnswer, IsDistinct}
use Rattle.std.specs.List.Sorted.{IsPermutation, IsSorted}
use Rattle.std.specs.Ordering.{eq_by_cmp, is_eq, is_lt, ordering_reverse}
use Rattle.std.specs.declared.cmp.Ordering.{Ordering}
use Rattle.std.specs.declared.cmp.Ordering.TheVariants.{Less, Equal, Greater}
use Rattle.std.proofs.lemmas.Cmp.{eq_by_cmp_equiv}
use Rattle.std.proofs.lemmas.List.Sorted.{IsPermutation-sym}
use Rattle.std.proofs.lemmas.Map.Keys.{IsDistinct-from_apart, IsDistinct-from_sorted, IsDistinct-IsPermutation, apart_from_distinct, sorted_from_all_adjacent}

below : (r : Ordering) → true ≡ is_lt r → r ≡ Less
below Less e = refl
below Equal e = absurd cc
below Greater e = absurd cc

-- neither the same nor above
left_below : (r s : Ordering) → is_eq r ≡ false → is_lt s ≡ false → s ≡ ordering_reverse r → r ≡ Less
left_below Less s e f t = refl
left_below Equal s e f t = absurd cc
left_below Greater s e f t = absurd (let u : is_lt s ≡ true = ap is_lt t in cc)

module _ {K : Type 0} {cmp : K → K → Ordering} (o : IsTotalOrder cmp) where
  -- items of which each is below the next differ
  rising : (ys : List K) → AllAdjacentBelow (λ x y. true ≡ is_lt (cmp x y)) ys (length ys) → IsDistinct (eq_by_cmp cmp) ys
  rising [] h = IsDistinct-from_apart (eq_by_cmp cmp) [] (λ i j d a l. absurd (omega arith))
  rising (y ∷ ys) h =
      IsDistinct-from_sorted cmp (y ∷ ys)
      (sorted_from_all_adjacent o (y ∷ ys) y (λ k l. below (cmp (get_or (y ∷ ys) k y) (get_or (y ∷ ys) (k + 1) y)) (h k y l)))

  -- items in order that differ rise
  next_below : (ys : List K) → IsSorted cmp ys → IsDistinct (eq_by_cmp cmp) ys → (k : ℕ) (d : K) → k + 1 < length ys
      → cmp (get_or ys k d) (get_or ys (k + 1) d) ≡ Less
  next_below ys s h k d l =
      left_below (cmp (get_or ys k d) (get_or ys (k + 1) d)) (cmp (get_or ys (k + 1) d) (get_or ys k d))
      (apart_from_distinct (eq_by_cmp cmp) ys k (k + 1) d h (omega arith) l) (s k d (omega arith) l)
      (o.antisymm (get_or ys (k + 1) d) (get_or ys k d))

  fall : (ys : List K) → IsSorted cmp ys → IsDistinct (eq_by_cmp cmp) ys → (k : ℕ) → k + 1 < length ys
      → ((d : K) → false ≡ is_lt (cmp (get_or ys k d) (get_or ys (k + 1) d))) → ⊥
  fall [] s h k l f = omega arith
  fall (y ∷ ys) s h k l f = let e : is_lt (cmp (get_or (y ∷ ys) k y) (get_or (y ∷ ys) (k + 1) y)) ≡ true = ap is_lt (next_below (y ∷ ys) s h k y l) in
      let g = f y in cc

  -- what a test of sorted items answers
  by_order : (xs ys : List K) → IsPermutation xs ys → IsSorted cmp ys → (r : Bool) → IsAllAdjacentAnswer (λ x y b. b ≡ is_lt (cmp x y)) ys r
      → IsTrue r ↔ IsDistinct (eq_by_cmp cmp) xs
  by_order xs ys p s true h =
      (λ t. IsDistinct-IsPermutation (eq_by_cmp cmp) (eq_by_cmp_equiv o).symm ys xs (IsPermutation-sym xs ys p) (rising ys h), λ d. refl)
  by_order xs ys p s false h =
      (λ t. absurd cc, λ d. absurd (fall ys s (IsDistinct-IsPermutation (eq_by_cmp cmp) (eq_by_cmp_equiv o).symm xs ys p d) h.0 h.1 h.2))

  pub differ_by_order : {eq lt : K → K → Bool} → ((x y : K) → eq x y ≡ eq_by_cmp cmp x y) → ((x y : K) → lt x y ≡ is_lt (cmp x y)) → (xs ys : List K)
      → IsPermutation xs ys → IsSorted cmp ys → (r : Bool) → IsAllAdjacentAnswer (λ x y b. b ≡ lt x y) ys r → IsTrue r ↔ IsDistinct eq xs
  differ_by_order ties lts xs ys p s r h =
      subst (λ (e : K → K → Bool). IsTrue r ↔ IsDistinct e xs) (λ i x y. sym (ties x y) i)
      (by_order xs ys p s r (subst (λ (l : K → K → Bool). IsAllAdjacentAnswer (λ x y b. b ≡ l x y) ys r) (λ i x y. lts x y i) h))
