-- Names that differ do so in another order too.
use Rattle.std.proofs.Common.{◌≡◌, ℕ, zero, suc, List, [], ◌∷◌, map, refl, sym, ap, ◌∙◌, arith}
use Rattle.std.specs.Prelude.{Bool, true, false, not, ◌||◌, ◌==◌, nat_lt, if◌then◌else◌, slice_get, Option, Some}
use Rattle.std.specs.List.{AllByRecursion, list_any, fold}
use Rattle.std.specs.Str.{bytes_eq}
use Rattle.std.proofs.lemmas.Bool.{and_parts}
use Rattle.std.proofs.lemmas.Slice.Eq.{bytes_eq-Decides}
use Rattle.mj_base.specs.Texts.{are_distinct}
use Rattle.kind_scope.specs.Members.{place, along}
use Rattle.schema_laws.proofs.Each.{all_placed}
use Rattle.written_laws.specs.Entries.{AreApart}

-- texts that stand once each

-- a text that is equal to none
none_any : (t : List ℕ) (ts : List (List ℕ)) → ((k : ℕ) (u : List ℕ) → slice_get ts k ≡ Some u → bytes_eq t u ≡ false)
    → list_any (bytes_eq t) ts ≡ false
none_any t [] differs = refl
none_any t (u ∷ us) differs = rw (differs zero u refl) (none_any t us (λ k v at. differs (suc k) v at))

-- the first differs from those behind
differs : (t : List ℕ) (ts : List (List ℕ)) → AreApart (t ∷ ts) → (k : ℕ) (u : List ℕ) → slice_get ts k ≡ Some u → bytes_eq t u ≡ false
differs t ts apart k u at = go (bytes_eq t u) refl
  where
    go : (b : Bool) → bytes_eq t u ≡ b → b ≡ false
    go false same = refl
    go true same =
        let equal : t ≡ u = (bytes_eq-Decides t u).0 same in
        let here : slice_get ts k ≡ Some t = at ∙ ap (λ (x : List ℕ). let o : Option (List ℕ) = Some x in o) (sym equal) in
        let e : zero ≡ suc k = apart zero (suc k) t refl here in
        let bad : ⊥ = omega (arith, e) in absurd bad

behind_apart : (t : List ℕ) (ts : List (List ℕ)) → AreApart (t ∷ ts) → AreApart ts
behind_apart t ts apart place other one at there = let e : suc place ≡ suc other = apart (suc place) (suc other) one at there in omega (arith, e)

pub apart_distinct : (ts : List (List ℕ)) → AreApart ts → are_distinct ts ≡ true
apart_distinct [] apart = refl
apart_distinct (t ∷ ts) apart = rw (none_any t ts (differs t ts apart)) (apart_distinct ts (behind_apart t ts apart))

-- along a number

turned_false : (t u : List ℕ) → bytes_eq t u ≡ false → bytes_eq u t ≡ false
turned_false t u e = go (bytes_eq u t) refl
  where
    go : (b : Bool) → bytes_eq u t ≡ b → b ≡ false
    go false same = refl
    go true same =
        let equal : u ≡ t = (bytes_eq-Decides u t).0 same in
        let back : bytes_eq t u ≡ true = (bytes_eq-Decides t u).1 (sym equal) in
        let bad : true ≡ false = sym back ∙ e in
        absurd cc

not_so : (b : Bool) → not b ≡ true → b ≡ false
not_so false e = refl
not_so true e = absurd cc

neither : (a b : Bool) → (a || b) ≡ false → (a ≡ false) × (b ≡ false)
neither false b e = (refl, e)
neither true b e = absurd cc

module _ (A : Type 0) (name : A → List ℕ) where
  -- the names of the two differ
  abbrev Apart : A → A → Type 0
  Apart x y = (bytes_eq (name x) (name y) ≡ false) × (bytes_eq (name y) (name x) ≡ false)

  abbrev Away : A → List A → Type 0
  Away x ys = AllByRecursion (Apart x) ys

  -- each differs from those behind it
  abbrev Pairwise : List A → Type 0
  Pairwise [] = Unit {0}
  Pairwise (x ∷ xs) = Away x xs × Pairwise xs

  turned : (x y : A) → Apart x y → Apart y x
  turned x y a = (a.1, a.0)

  placed : (number : A → ℕ) (xs : List A) (x : A) → Pairwise xs → Away x xs → Pairwise (place number xs x)
  placed number [] x all away = (tt, tt)
  placed number (y ∷ ys) x all away = go (nat_lt (number x) (number y)) (number x == number y) (placed number ys x all.1 away.1)
    where
      go : (less same : Bool) → Pairwise (place number ys x)
          → Pairwise (if less then x ∷ y ∷ ys else (if same then x ∷ ys else y ∷ place number ys x))
      go true same rest = (away, all)
      go false true rest = (away.1, all.1)
      go false false rest = (all_placed (Apart y) number ys x all.0 (turned x y away.0), rest)

  -- what is apart from those placed and from one more is apart from all
  spread : (number : A → ℕ) (done : List A) (x : A) (xs : List A) → AllByRecursion (λ y. Away y done) xs → Away x xs
      → AllByRecursion (λ y. Away y (place number done x)) xs
  spread number done x [] apart away = tt
  spread number done x (y ∷ ys) apart away =
      (all_placed (Apart y) number done x apart.0 (turned x y away.0), spread number done x ys apart.1 away.1)

  folded : (number : A → ℕ) (done xs : List A) → Pairwise done → AllByRecursion (λ x. Away x done) xs → Pairwise xs
      → Pairwise (fold (place number) done xs)
  folded number done [] before apart all = before
  folded number done (x ∷ xs) before apart all =
      folded number (place number done x) xs (placed number done x before apart.0) (spread number done x xs apart.1 all.0) all.1

  away : (x : A) (xs : List A) → list_any (bytes_eq (name x)) (map name xs) ≡ false → Away x xs
  away x [] e = tt
  away x (y ∷ ys) e =
      let parts = neither (bytes_eq (name x) (name y)) (list_any (bytes_eq (name x)) (map name ys)) e in
      ((parts.0, turned_false (name x) (name y) parts.0), away x ys parts.1)

  from_names : (xs : List A) → are_distinct (map name xs) ≡ true → Pairwise xs
  from_names [] e = tt
  from_names (x ∷ xs) e =
      let parts = and_parts (not (list_any (bytes_eq (name x)) (map name xs))) (are_distinct (map name xs)) e in
      (away x xs (not_so (list_any (bytes_eq (name x)) (map name xs)) parts.0), from_names xs parts.1)

  none : (x : A) (xs : List A) → Away x xs → list_any (bytes_eq (name x)) (map name xs) ≡ false
  none x [] all = refl
  none x (y ∷ ys) all = rw all.0.0 (none x ys all.1)

  to_names : (xs : List A) → Pairwise xs → are_distinct (map name xs) ≡ true
  to_names [] all = refl
  to_names (x ∷ xs) all = rw (none x xs all.0) (to_names xs all.1)

  nothing_done : (xs : List A) → AllByRecursion (λ x. Away x []) xs
  nothing_done [] = tt
  nothing_done (x ∷ xs) = (tt, nothing_done xs)

  -- names that differ do so along a number
  pub along_distinct : (number : A → ℕ) (xs : List A) → are_distinct (map name xs) ≡ true → are_distinct (map name (along number xs)) ≡ true
  along_distinct number xs e = to_names (along number xs) (folded number [] xs tt (nothing_done xs) (from_names xs e))
