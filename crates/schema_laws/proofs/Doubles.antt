-- Texts of which none stands twice: by how often each stands.
use Rattle.std.proofs.Common.{◌≡◌, ℕ, ◌+◌, ◌≤◌, List, [], ◌∷◌, ◌++◌, refl, ap, arith}
use Rattle.std.specs.Prelude.{Bool, true, false, not, ◌||◌, if◌then◌else◌, IsTrue}
use Rattle.std.specs.List.{list_any}
use Rattle.std.specs.Str.{bytes_eq}
use Rattle.std.proofs.lemmas.Bool.{and_from}
use Rattle.std.proofs.lemmas.Slice.Eq.{bytes_eq-Decides}
use Rattle.mj_base.specs.Texts.{are_distinct}

-- 1 where it is so
abbrev pub one_if : Bool → ℕ
one_if b = if b then 1 else 0

pub one_if_small : (b : Bool) → one_if b + 0 ≤ 1
one_if_small true = omega arith
one_if_small false = omega arith

-- how often a text stands in a list
abbrev pub times : List ℕ → List (List ℕ) → ℕ
times text [] = 0
times text (other ∷ others) = one_if (bytes_eq text other) + times text others

-- in two lists it stands as often as in both
pub times_append : (text : List ℕ) (xs ys : List (List ℕ)) → times text (xs ++ ys) ≡ times text xs + times text ys
times_append text [] ys = omega arith
times_append text (x ∷ xs) ys = let rest = times_append text xs ys in omega arith

-- a text that is none of a list does not stand there
pub times_of_none : (text : List ℕ) (xs : List (List ℕ)) → list_any (bytes_eq text) xs ≡ false → times text xs ≡ 0
times_of_none text [] e = refl
times_of_none text (x ∷ xs) e = go (bytes_eq text x) e (times_of_none text xs)
  where
    go : (b : Bool) → (b || list_any (bytes_eq text) xs) ≡ false → (list_any (bytes_eq text) xs ≡ false → times text xs ≡ 0)
        → one_if b + times text xs ≡ 0
    go true e rest = absurd cc
    go false e rest = let none = rest e in omega arith

-- a text that does not stand in a list is none of it
pub none_of_times : (text : List ℕ) (xs : List (List ℕ)) → times text xs ≡ 0 → list_any (bytes_eq text) xs ≡ false
none_of_times text [] e = refl
none_of_times text (x ∷ xs) e = go (bytes_eq text x) e (none_of_times text xs)
  where
    go : (b : Bool) → one_if b + times text xs ≡ 0 → (times text xs ≡ 0 → list_any (bytes_eq text) xs ≡ false)
        → (b || list_any (bytes_eq text) xs) ≡ false
    go true e rest = absurd (let bad : ⊥ = omega arith in bad)
    go false e rest = rest (omega arith)

-- a text is itself
same_text : (text : List ℕ) → bytes_eq text text ≡ true
same_text text = (bytes_eq-Decides text text).1 refl

-- a list in which each text stands at most once has no doubles
pub distinct : (texts : List (List ℕ)) → ((text : List ℕ) → times text texts ≤ 1) → IsTrue (are_distinct texts)
distinct [] once = refl
distinct (x ∷ xs) once =
    let here : one_if (bytes_eq x x) + times x xs ≤ 1 = once x in
    let first : 1 + times x xs ≤ 1 = rw (same_text x) at here in
    let none = none_of_times x xs (omega (arith, first)) in
    let rest : IsTrue (are_distinct xs) = distinct xs (λ (text : List ℕ). at (one_if (bytes_eq text x)) (times text xs) (once text)) in
    and_from (not (list_any (bytes_eq x) xs)) (are_distinct xs) (ap not none) rest
  where
    at : (a b : ℕ) → a + b ≤ 1 → b ≤ 1
    at a b h = omega arith
