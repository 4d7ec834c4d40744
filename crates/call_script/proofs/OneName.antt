-- A name that a script sets has one number.
use Rattle.std.proofs.Common.{◌≡◌, ◌+◌, ℕ, zero, suc, List, [], ◌∷◌, ◌++◌, length, refl, sym, ◌∙◌, ap, subst, append_assoc, append-nil}
use Rattle.std.specs.Prelude.{Bool, true, false, ◌||◌, Some, None, if◌then◌else◌, slice_get, ◌⊎◌}
use Rattle.std.proofs.Common.{inl, inr}
use Rattle.std.specs.List.{list_any}
use Rattle.std.specs.Option.{option_map, option_or}
use Rattle.std.specs.Str.{bytes_eq}
use Rattle.std.proofs.lemmas.Slice.Eq.{bytes_eq-Decides}
use Rattle.mj_schema.specs.declared.schema.Schema.{Schema}
use Rattle.call_script.specs.declared.script.NameId.{NameId}
use Rattle.script_forms.specs.Forms.{Form, sets, sets_own}
use Rattle.call_script.specs.Script.{has_name, doubled, sets_again, names_set, IsNamed, AreNamed, Part, AreTaken}
use Rattle.call_script.specs.steps.Names.{number_of}
use Rattle.call_script.proofs.NameLemmas.{number_more}

-- each name has its own number
abbrev pub Numbered : List (List ℕ) → Type 0
Numbered names = (n : ℕ) (q : List ℕ) → slice_get names n ≡ Some q → number_of q names ≡ Some n

-- what isn't there has no number
none_has : (q : List ℕ) (xs : List (List ℕ)) → has_name xs q ≡ false → number_of q xs ≡ None
none_has q [] e = refl
none_has q (x ∷ xs) e = go (bytes_eq q x) (λ h. none_has q xs h) e
  where
    go : (b : Bool) → (has_name xs q ≡ false → number_of q xs ≡ None)
        → (b || has_name xs q) ≡ false → (if b then Some 0 else option_map (λ (n : ℕ). n + 1) (number_of q xs)) ≡ None
    go true inner h = absurd cc
    go false inner h = rw (inner h) refl

-- the item of a number, in a list with one item more
at_end : (xs : List (List ℕ)) (x q : List ℕ) (n : ℕ) → slice_get (xs ++ x ∷ []) n ≡ Some q → (slice_get xs n ≡ Some q) ⊎ ((n ≡ length xs) × (q ≡ x))
at_end [] x q zero e = inr (refl, cc)
at_end [] x q (suc n) e = absurd cc
at_end (y ∷ xs) x q zero e = inl e
at_end (y ∷ xs) x q (suc n) e = go (at_end xs x q n e)
  where
    go : (slice_get xs n ≡ Some q) ⊎ ((n ≡ length xs) × (q ≡ x)) → (slice_get (y ∷ xs) (suc n) ≡ Some q) ⊎ ((suc n ≡ suc (length xs)) × (q ≡ x))
    go (inl there) = inl there
    go (inr last) = inr (ap suc last.0, last.1)

-- one new name more
numbered_one : (names : List (List ℕ)) (x : List ℕ) → Numbered names → has_name names x ≡ false → Numbered (names ++ x ∷ [])
numbered_one names x so_far new n q e = number_more q x names ∙ go (at_end names x q n e)
  where
    go : (slice_get names n ≡ Some q) ⊎ ((n ≡ length names) × (q ≡ x))
        → option_or (number_of q names) (if bytes_eq q x then Some (length names) else None) ≡ Some n
    go (inl there) = rw (so_far n q there) refl
    go (inr last) =
        let same : bytes_eq q x ≡ true = (bytes_eq-Decides q x).1 last.1 in
        let none : number_of q names ≡ None = none_has q names (ap (has_name names) last.1 ∙ new) in
        rw (none, same, last.0) refl

-- new names more
numbered_more : (names more : List (List ℕ)) → Numbered names → doubled names more ≡ false → Numbered (names ++ more)
numbered_more names [] so_far new = subst Numbered (sym (append-nil names)) so_far
numbered_more names (x ∷ more) so_far new =
    let k = neither (has_name names x) (doubled (names ++ x ∷ []) more) new in
    subst Numbered (append_assoc names (x ∷ []) more) (numbered_more (names ++ x ∷ []) more (numbered_one names x so_far k.0) k.1)
  where
    neither : (a b : Bool) → (a || b) ≡ false → (a ≡ false) × (b ≡ false)
    neither true b h = absurd cc
    neither false b h = (refl, h)

either_way : (a b : Bool) → (a || b) ≡ false → a ≡ false
either_way true b h = absurd cc
either_way false b h = refl

other_way : (a b : Bool) → (a || b) ≡ false → b ≡ false
other_way true b h = absurd cc
other_way false b h = h

-- the names of a script
pub numbered : (schema : Schema) (seqs : ℕ) (forms : List Form) (parts : List Part) → AreTaken schema seqs forms parts → Numbered (names_set forms)
numbered schema seqs [] parts taken n q e = absurd cc
numbered schema seqs (form ∷ past) [] taken n q e = absurd taken
numbered schema seqs (form ∷ past) (part ∷ parts) taken n q e =
    let new = either_way (sets_again (names_set past) form) _ taken.0.single in
    let single = other_way (list_any (has_name (names_set past)) (sets_own form)) (doubled (names_set past) (sets form)) new in
    numbered_more (names_set past) (sets form) (numbered schema seqs past parts taken.1) single n q e

-- one number, and the same numbers
pub id_one : (names : List (List ℕ)) → Numbered names → (a b : NameId) (q : List ℕ) → IsNamed names a q → IsNamed names b q → a ≡ b
id_one names all a b q one other =
    let same : a.0 ≡ b.0 = let f = all a.0 q one in let g = all b.0 q other in cc in
    ap (λ (n : ℕ). record { 0 = n }) same

pub ids_one : (names : List (List ℕ)) → Numbered names → (xs ys : List NameId) (qs : List (List ℕ)) → AreNamed names xs qs → AreNamed names ys qs → xs ≡ ys
ids_one names all [] [] [] one other = refl
ids_one names all [] (y ∷ ys) [] one other = absurd other
ids_one names all (x ∷ xs) ys [] one other = absurd one
ids_one names all [] ys (q ∷ qs) one other = absurd one
ids_one names all (x ∷ xs) [] (q ∷ qs) one other = absurd other
ids_one names all (x ∷ xs) (y ∷ ys) (q ∷ qs) one other =
    let first : x ≡ y = id_one names all x y q one.0 other.0 in
    let rest : xs ≡ ys = ids_one names all xs ys qs one.1 other.1 in cc
