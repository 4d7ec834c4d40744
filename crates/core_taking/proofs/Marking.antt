-- Marks, and the indexes that they are of.
use Rattle.std.proofs.Common.{◌≡◌, ◌<◌, ℕ, zero, suc, ◌+◌, Bool, true, false, List, [], ◌∷◌, ◌++◌, length, set, replicate}
use Rattle.std.proofs.Common.{map, take, drop, get_or, Vec, Global, refl, sym, ap, ◌∙◌, arith, rules, add-one, drop-cons}
use Rattle.std.specs.Prelude.{◌==◌, ◌||◌, if◌then◌else◌}
use Rattle.std.specs.List.{list_any}
use Rattle.std.proofs.lemmas.Bool.{eq-eqb, ne_eqb}
use Rattle.std.proofs.lemmas.List.{append-nil, length-set, take-append-le, take_all}
use Rattle.wire_model.specs.Indexes.{handles_of, handles_in}
use Rattle.wire_model.specs.Trees.{Pairs, Items, more, none, view, trees}
use Rattle.wire_model.specs.declared.value.Value.{Value, the_lemmas}
use Rattle.wire_model.specs.declared.value.Value.TheVariants as values
use Rattle.bind_model.specs.Replies.{picked, unpicked}
use Rattle.core_taking.specs.steps.Marks.{marked, with_mark, without_mark}

-- indexes one after the other
pub marked-append : (is js : List ℕ) (marks : List Bool) → marked (is ++ js) marks ≡ marked js (marked is marks)
marked-append [] js marks = refl
marked-append (i ∷ is) js marks = marked-append is js (set marks i true)

-- the trees from a value on
trees_at : (vs : List Value) (i : ℕ) (v : Value) → i < length vs → v ≡ get_or vs i v
    → trees (map view (drop i vs)) ≡ more (view v) (trees (map view (drop (i + 1) vs)))
trees_at vs i v lt e =
    let cut : drop i vs ≡ get_or vs i v ∷ drop (i + 1) vs = rw (add-one, drop-cons vs i v) refl in
    ap (λ (l : List Value). trees (map view l)) cut ∙ ap (λ (w : Value). more (view w) (trees (map view (drop (i + 1) vs)))) (sym e)

-- the tree of a map
pub view-map : (ks vs : Vec Value Global) → view (values.Map ks vs)
    ≡ Pairs (more (Items (trees (map view ks.items))) (more (Items (trees (map view vs.items))) none))
view-map ks vs = search (rules, the_lemmas)

-- one value's marks, and then those of the rest
pub marked-on : (vs : List Value) (i : ℕ) (v : Value) (old new all : List Bool) → i < length vs → v ≡ get_or vs i v → new ≡ marked (handles_of (view v)) old
    → marked (handles_in (trees (map view (drop i vs)))) old ≡ all → marked (handles_in (trees (map view (drop (i + 1) vs)))) new ≡ all
marked-on vs i v old new all lt is e before =
    ap (marked (handles_in (trees (map view (drop (i + 1) vs))))) e
    ∙ (sym (marked-append (handles_of (view v)) (handles_in (trees (map view (drop (i + 1) vs)))) old)
    ∙ (ap (λ ts. marked (handles_in ts) old) (sym (trees_at vs i v lt is)) ∙ before))

-- the marks of keys, and then those of their values
pub marked-map : (keys values : Vec Value Global) (old mid new : List Bool) → mid ≡ marked (handles_in (trees (map view keys.items))) old
    → new ≡ marked (handles_in (trees (map view values.items))) mid
    → new ≡ marked (handles_of (Pairs (more (Items (trees (map view keys.items))) (more (Items (trees (map view values.items))) none)))) old
marked-map keys values old mid new e f =
    f ∙ (ap (marked (handles_in (trees (map view values.items)))) e
    ∙ (sym (marked-append (handles_in (trees (map view keys.items))) (handles_in (trees (map view values.items))) old)
    ∙ ap (λ is. marked (handles_in (trees (map view keys.items)) ++ is) old) (sym (append-nil (handles_in (trees (map view values.items)))))))

-- marks from a place on, and those of indexes too
abbrev also : List ℕ → ℕ → List Bool → List Bool
also is k [] = []
also is k (m ∷ marks) = (m || list_any (λ i. i == k) is) ∷ also is (suc k) marks

-- an index before them marks none of them
also-before : (is : List ℕ) (i k : ℕ) (marks : List Bool) → i < k → also (i ∷ is) k marks ≡ also is k marks
also-before is i k [] h = refl
also-before is i k (m ∷ marks) h = rw (ne_eqb i k (λ e. omega (arith, h, e)), also-before is i (suc k) marks (omega (arith, h))) refl

-- to set one mark is to mark one index more
also-set : (is : List ℕ) (i j k : ℕ) (marks : List Bool) → i ≡ k + j → also is k (set marks j true) ≡ also (i ∷ is) k marks
also-set is i j k [] e = refl
also-set is i zero k (m ∷ marks) e = rw (eq-eqb i k (omega (arith, e)), also-before is i (suc k) marks (omega (arith, e))) (go m)
  where
    go : (m : Bool) → ◌≡◌ {A = List Bool} (true ∷ also is (suc k) marks) ((m || true) ∷ also is (suc k) marks)
    go true = refl
    go false = refl
also-set is i (suc j) k (m ∷ marks) e = rw (ne_eqb i k (λ same. omega (arith, e, same)), also-set is i j (suc k) marks (omega (arith, e))) refl

-- no indexes mark nothing
also-none : (k : ℕ) (marks : List Bool) → also [] k marks ≡ marks
also-none k [] = refl
also-none k (true ∷ marks) = ap (λ rest. true ∷ rest) (also-none (suc k) marks)
also-none k (false ∷ marks) = ap (λ rest. false ∷ rest) (also-none (suc k) marks)

-- marks by indexes, place by place
marked-is : (is : List ℕ) (marks : List Bool) → marked is marks ≡ also is 0 marks
marked-is [] marks = sym (also-none 0 marks)
marked-is (i ∷ is) marks = marked-is is (set marks i true) ∙ also-set is i i 0 marks (omega arith)

module _ {A : Type 0} where
  -- what stands at the marks of indexes, from any place on
  picked-is : (is : List ℕ) (k : ℕ) (xs : List A) → with_mark (also is k (replicate (length xs) false)) xs ≡ picked is k xs
  picked-is is k [] = refl
  picked-is is k (x ∷ xs) = go (list_any (λ i. i == k) is) (picked-is is (suc k) xs)
    where
      go : (b : Bool) → with_mark (also is (suc k) (replicate (length xs) false)) xs ≡ picked is (suc k) xs
          → with_mark (b ∷ also is (suc k) (replicate (length xs) false)) (x ∷ xs) ≡ (if b then x ∷ picked is (suc k) xs else picked is (suc k) xs)
      go true rest = ap (λ ys. x ∷ ys) rest
      go false rest = rest

  unpicked-is : (is : List ℕ) (k : ℕ) (xs : List A) → without_mark (also is k (replicate (length xs) false)) xs ≡ unpicked is k xs
  unpicked-is is k [] = refl
  unpicked-is is k (x ∷ xs) = go (list_any (λ i. i == k) is) (unpicked-is is (suc k) xs)
    where
      go : (b : Bool) → without_mark (also is (suc k) (replicate (length xs) false)) xs ≡ unpicked is (suc k) xs
          → without_mark (b ∷ also is (suc k) (replicate (length xs) false)) (x ∷ xs) ≡ (if b then unpicked is (suc k) xs else x ∷ unpicked is (suc k) xs)
      go true rest = rest
      go false rest = ap (λ ys. x ∷ ys) rest

  -- what is marked by a value's indexes alone is what they pick
  pub with-picked : (is : List ℕ) (xs : List A) → with_mark (marked is (replicate (length xs) false)) xs ≡ picked is 0 xs
  with-picked is xs = ap (λ marks. with_mark marks xs) (marked-is is (replicate (length xs) false)) ∙ picked-is is 0 xs

  pub without-picked : (is : List ℕ) (xs : List A) → without_mark (marked is (replicate (length xs) false)) xs ≡ unpicked is 0 xs
  without-picked is xs = ap (λ marks. without_mark marks xs) (marked-is is (replicate (length xs) false)) ∙ unpicked-is is 0 xs

-- there are as many marks as before
pub marked-length : (is : List ℕ) (marks : List Bool) → length (marked is marks) ≡ length marks
marked-length [] marks = refl
marked-length (i ∷ is) marks = marked-length is (set marks i true) ∙ length-set marks i true

-- a slice of as many marks, written back whole
pub written-back : (n : ℕ) (marks old new : List Bool) → length marks ≡ n → new ≡ take n (marks ++ drop (length marks) old) → new ≡ marks
written-back n marks old new e w =
    w ∙ (take-append-le n marks (drop (length marks) old) (omega (arith, e)) ∙ take_all n marks (omega (arith, e)))
