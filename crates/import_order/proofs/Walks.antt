-- Walks along imports, and files taken one after the other.
use Rattle.std.proofs.Common.{◌≡◌, ℕ, zero, suc, ◌+◌, ◌<◌, ◌≤◌, List, [], ◌∷◌, ◌++◌, length, take, get_or, refl, sym, ◌∙◌, ap, subst, inl, inr, arith}
use Rattle.std.specs.Prelude.{Bool, true, false, not, ◌&&◌, cond, Option, Some, None, is_none, find, ◌==◌, ◌⊎◌}
use Rattle.std.specs.List.{All, range_with_len}
use Rattle.std.proofs.Math.Nat.{eq-or-lt_of_le}
use Rattle.std.proofs.lemmas.Bool.{and_parts, eqb-true, false≢true, not-true}
use Rattle.std.proofs.lemmas.List.{length_push, get_or_append_left, get_or_push, get_or_default, take-append-le, take_at}
use Rattle.std.proofs.lemmas.List.Elements.{All-head, All-tail}
use Rattle.std.proofs.lemmas.List.Folds.{Any-from_list_any}
use Rattle.std.proofs.lemmas.Option.{same_Some}
use Rattle.import_order.specs.Imports.{has, AreDistinct, all_files, first_left, import_left, is_free, next_file, IsTakenInOrder, IsWalk, IsCircle}

found_test : (p : ℕ → Bool) (b : Bool) (x y : ℕ) (xs : List ℕ) → p x ≡ b → (find p xs ≡ Some y → p y ≡ true) → cond b (Some x) (find p xs) ≡ Some y → p y ≡ true
found_test p true x y xs is later e = ap p (sym (same_Some x y e)) ∙ is
found_test p false x y xs is later e = later e

-- what is found passes the test
pub found_is : (p : ℕ → Bool) (xs : List ℕ) (y : ℕ) → find p xs ≡ Some y → p y ≡ true
found_is p [] y e = absurd (cc)
found_is p (x ∷ xs) y e = found_test p (p x) x y xs refl (found_is p xs y) e

found_all_at : (P : ℕ → Type 0) (b : Bool) (x y : ℕ) (found : Option ℕ) → P x → (found ≡ Some y → P y) → cond b (Some x) found ≡ Some y → P y
found_all_at P true x y found holds later e = subst P (same_Some x y e) holds
found_all_at P false x y found holds later e = later e

-- what is found is one of all
pub found_all : (P : ℕ → Type 0) (p : ℕ → Bool) (xs : List ℕ) (y : ℕ) → All P xs → find p xs ≡ Some y → P y
found_all P p [] y all e = absurd (cc)
found_all P p (x ∷ xs) y all e = found_all_at P (p x) x y (find p xs) (All-head P x xs all) (found_all P p xs y (All-tail P x xs all)) e

nowhere_at : (p : ℕ → Bool) (b : Bool) (x : ℕ) (found : Option ℕ) → p x ≡ b → cond b (Some x) found ≡ None → (p x ≡ false) × (found ≡ None)
nowhere_at p true x found is e = absurd (cc)
nowhere_at p false x found is e = (is, e)

nowhere_from : (p : ℕ → Bool) (a n : ℕ) → find p (range_with_len a n) ≡ None → (k : ℕ) → k < n → p (a + k) ≡ false
nowhere_from p a zero e k lt = absurd (let bad : ⊥ = omega (arith, lt) in bad)
nowhere_from p a (suc n) e zero lt = let here : a + 0 ≡ a = omega arith in ap p here ∙ (nowhere_at p (p a) a (find p (range_with_len (a + 1) n)) refl e).0
nowhere_from p a (suc n) e (suc k) lt =
    let here : a + suc k ≡ a + 1 + k = omega arith in
    ap p here ∙ nowhere_from p (a + 1) n (nowhere_at p (p a) a (find p (range_with_len (a + 1) n)) refl e).1 k (omega (arith, lt))

-- where nothing is found, nothing passes the test
pub nowhere : (p : ℕ → Bool) (n : ℕ) → find p (range_with_len 0 n) ≡ None → (k : ℕ) → k < n → p k ≡ false
nowhere p n e k lt = let here : k ≡ 0 + k = omega arith in ap p here ∙ nowhere_from p 0 n e k lt

range_all : (a n limit : ℕ) → a + n ≤ limit → (p : ℕ → Bool) (y : ℕ) → find p (range_with_len a n) ≡ Some y → y < limit
range_all a zero limit le p y e = absurd (cc)
range_all a (suc n) limit le p y e =
    found_all_at (λ (k : ℕ). k < limit) (p a) a y (find p (range_with_len (a + 1) n)) (omega (arith, le))
    (range_all (a + 1) n limit (omega (arith, le)) p y) e

-- what is found of the numbers below a limit is below it
pub found_below : (p : ℕ → Bool) (n y : ℕ) → find p (range_with_len 0 n) ≡ Some y → y < n
found_below p n y e = range_all 0 n n (omega arith) p y e

-- a file that is left is not taken
pub left_is : (taken files : List ℕ) (file : ℕ) → first_left taken files ≡ Some file → has taken file ≡ false
left_is taken files file e = not-true (has taken file) (found_is (λ (f : ℕ). not (has taken f)) files file e)

stuck : (b : Bool) → (not false && b) ≡ false → b ≡ false
stuck b is = is

-- where no file can be taken, each that is left imports one that is left
pub leads_on : (imports : List (List ℕ)) (taken : List ℕ) (file : ℕ)
    → next_file imports taken ≡ None → file < length imports → has taken file ≡ false
    → import_left imports taken file ≡ None
    → ⊥
leads_on imports taken file none within left is =
    let free : is_free imports taken file ≡ false = nowhere (is_free imports taken) (length imports) none file within in
    let some : is_none (import_left imports taken file) ≡ false =
    stuck (is_none (import_left imports taken file))
    (subst (λ (b : Bool). (not b && is_none (import_left imports taken file)) ≡ false) left free) in
    false≢true (sym some ∙ ap is_none is)

-- a number that stands in a list has a place there
pub absent : (numbers : List ℕ) (k : ℕ) → has numbers k ≡ true → ((i : ℕ) → i < length numbers → get_or numbers i 0 ≡ k → ⊥) → ⊥
absent numbers k is none =
    let any = Any-from_list_any (λ (other : ℕ). other == k) numbers is in
    none any.0 any.2 (get_or_default numbers any.0 0 any.1 any.2 ∙ (any.3 ∙ eqb-true any.1 k any.4))

-- a walk begins at the first file that is left
pub walk_begins : (imports : List (List ℕ)) (taken : List ℕ) (from : ℕ) → first_left taken (all_files imports) ≡ Some from → IsWalk imports taken (from ∷ [])
walk_begins imports taken from e = record {
  begins = e;
  goes_on = λ k lt. absurd (let bad : ⊥ = omega (arith, lt) in bad);
}

-- a walk goes on to the first import that is left
pub walk_more : (imports : List (List ℕ)) (taken path : List ℕ) (here next : ℕ)
    → IsWalk imports taken (path ++ here ∷ []) → import_left imports taken here ≡ Some next
    → IsWalk imports taken ((path ++ here ∷ []) ++ next ∷ [])
walk_more imports taken path here next walk leads = record {
  begins =
      walk.begins
      ∙ ap (λ (x : ℕ). Some x)
      (sym (get_or_append_left (path ++ here ∷ []) (next ∷ []) 0 0 (let long = length_push path here in omega (arith, long))));
  goes_on = λ k lt.
      go k
      (let most : k + 1 < length (path ++ here ∷ []) + 1 = rw (length_push (path ++ here ∷ []) next) at lt in
      let le : k + 1 ≤ length (path ++ here ∷ []) = omega (arith, most) in
      eq-or-lt_of_le le);
}
  where
    kept : (k : ℕ) → k < length (path ++ here ∷ []) → get_or ((path ++ here ∷ []) ++ next ∷ []) k 0 ≡ get_or (path ++ here ∷ []) k 0
    kept k lt = get_or_append_left (path ++ here ∷ []) (next ∷ []) 0 k lt

    go : (k : ℕ)
        → (k + 1 ≡ length (path ++ here ∷ [])) ⊎ (k + 1 < length (path ++ here ∷ []))
        → import_left imports taken (get_or ((path ++ here ∷ []) ++ next ∷ []) k 0)
        ≡ Some (get_or ((path ++ here ∷ []) ++ next ∷ []) (k + 1) 0)
    go k (inr lt) = ap (import_left imports taken) (kept k (omega (arith, lt))) ∙ (walk.goes_on k lt ∙ ap (λ (x : ℕ). Some x) (sym (kept (k + 1) lt)))
    go k (inl same) =
        let long = length_push path here in
        let last : length path ≡ k = omega (arith, long, same) in
        ap (import_left imports taken) (kept k (omega (arith, same)) ∙ get_or_push path here 0 k last)
        ∙ (leads ∙ ap (λ (x : ℕ). Some x) (sym (get_or_push (path ++ here ∷ []) next 0 (k + 1) (sym same))))

pub circle_is : (imports : List (List ℕ)) (taken path : List ℕ) (here first : ℕ)
    → first < length path → get_or path first 0 ≡ here → AreDistinct path → IsWalk imports taken (path ++ here ∷ [])
    → IsCircle imports taken path first
circle_is imports taken path here first lt is distinct walk = record {
  on_path = lt;
  distinct = distinct;
  walk = subst (λ (x : ℕ). IsWalk imports taken (path ++ x ∷ [])) (sym is) walk;
}

-- files taken in order are so with the next one behind them
pub taken_more : (imports : List (List ℕ)) (taken : List ℕ) (one : ℕ)
    → IsTakenInOrder imports taken → next_file imports taken ≡ Some one
    → IsTakenInOrder imports (taken ++ one ∷ [])
taken_more imports taken one are next = λ k lt.
    go k
    (let most : k < length taken + 1 = rw (length_push taken one) at lt in
    let le : k ≤ length taken = omega (arith, most) in
    eq-or-lt_of_le le)
  where
    go : (k : ℕ) → (k ≡ length taken) ⊎ (k < length taken) → next_file imports (take k (taken ++ one ∷ [])) ≡ Some (get_or (taken ++ one ∷ []) k 0)
    go k (inl same) =
        ap (next_file imports) (take_at taken (one ∷ []) k (sym same))
        ∙ (next ∙ ap (λ (x : ℕ). Some x) (sym (get_or_push taken one 0 k (sym same))))
    go k (inr lt) =
        ap (next_file imports) (take-append-le k taken (one ∷ []) (omega (arith, lt)))
        ∙ (are k lt ∙ ap (λ (x : ℕ). Some x) (sym (get_or_append_left taken (one ∷ []) 0 k lt)))

-- the next file is not taken
pub free_left : (imports : List (List ℕ)) (taken : List ℕ) (file : ℕ) → next_file imports taken ≡ Some file → has taken file ≡ false
free_left imports taken file e =
    not-true (has taken file)
    (and_parts (not (has taken file)) (is_none (import_left imports taken file)) (found_is (is_free imports taken) (all_files imports) file e)).0
