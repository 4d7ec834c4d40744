-- Names that are set have numbers.
use Rattle.std.proofs.Common.{◌≡◌, ℕ, suc, Bool, true, false, List, [], ◌∷◌, ◌++◌, length, map, Option, Some, None, refl, sym, ap, subst, append_assoc}
use Rattle.std.specs.Prelude.{◌||◌, ◌&&◌, is_some, slice_get}
use Rattle.std.specs.List.{list_all}
use Rattle.std.specs.Str.{bytes_eq}
use Rattle.std.proofs.lemmas.Slice.Eq.{bytes_eq-Decides}
use Rattle.call_script.specs.declared.script.NameId.{NameId}
use Rattle.call_script.specs.Script.{has_name, meant, is_set, IsNamed, AreNamed}

-- what holds with another
pub and_parts : (a b : Bool) → (a && b) ≡ true → (a ≡ true) × (b ≡ true)
and_parts true b e = (refl, e)
and_parts false b e = absurd (let f : false ≡ true = e in cc)

-- what is there
pub some_of : {A : Type 0} (o : Option A) → is_some o ≡ true → (x : A) × (o ≡ Some x)
some_of None e = absurd (let f : false ≡ true = e in cc)
some_of (Some x) e = (x, refl)

-- the number of a name
pub number : (names : List (List ℕ)) (name : List ℕ) → has_name names name ≡ true → (id : NameId) × IsNamed names id name
number [] name e = absurd (let f : false ≡ true = e in cc)
number (x ∷ names) name e = go (bytes_eq name x) refl e (λ inner. number names name inner)
  where
    go : (t : Bool) → bytes_eq name x ≡ t → (t || has_name names name) ≡ true
        → (has_name names name ≡ true → (id : NameId) × IsNamed names id name) → (id : NameId) × IsNamed (x ∷ names) id name
    go true same there later = (record { 0 = 0 }, ap Some (sym ((bytes_eq-Decides name x).0 same)))
    go false other there later = let l = later there in (record { 0 = suc l.0.0 }, l.1)

-- a name among some more
pub in_front : (names more : List (List ℕ)) (name : List ℕ) → has_name names name ≡ true → has_name (names ++ more) name ≡ true
in_front [] more name e = absurd (let f : false ≡ true = e in cc)
in_front (x ∷ names) more name e = go (bytes_eq name x) e (λ inner. in_front names more name inner)
  where
    go : (t : Bool) → (t || has_name names name) ≡ true → (has_name names name ≡ true → has_name (names ++ more) name ≡ true)
        → (t || has_name (names ++ more) name) ≡ true
    go true there later = refl
    go false there later = later there

-- where it was set before
pub before : (names own : List (List ℕ)) (name : List ℕ) → has_name names name ≡ true → (id : NameId) × IsNamed (names ++ own) id name
before names own name e = number (names ++ own) name (in_front names own name e)

-- those that are set before
pub all_before : (names own : List (List ℕ)) (seq : ℕ) (words : List (List ℕ)) → list_all (is_set names seq) words ≡ true
    → (ids : List NameId) × AreNamed (names ++ own) ids (map (meant names seq) words)
all_before names own seq [] e = ([], tt)
all_before names own seq (word ∷ words) e =
    let parts = and_parts (is_set names seq word) (list_all (is_set names seq) words) e in
    let one = before names own (meant names seq word) parts.0 in
    let rest = all_before names own seq words parts.1 in
    (one.0 ∷ rest.0, (one.1, rest.1))

-- the next
at_end : (names : List (List ℕ)) (name : List ℕ) (more : List (List ℕ)) → slice_get (names ++ name ∷ more) (length names) ≡ Some name
at_end [] name more = refl
at_end (x ∷ names) name more = at_end names name more

-- its number
pub next : (names : List (List ℕ)) (name : List ℕ) (more : List (List ℕ)) → (id : NameId) × IsNamed (names ++ name ∷ more) id name
next names name more = (record { 0 = length names }, at_end names name more)

-- and the one behind it
pub second : (names : List (List ℕ)) (first name : List ℕ) → (id : NameId) × IsNamed (names ++ first ∷ name ∷ []) id name
second names first name =
    subst (λ (all : List (List ℕ)). (id : NameId) × IsNamed all id name) (append_assoc names (first ∷ []) (name ∷ [])) (next (names ++ first ∷ []) name [])

-- those behind
pub all_next : (names own : List (List ℕ)) → (ids : List NameId) × AreNamed (names ++ own) ids own
all_next names [] = ([], tt)
all_next names (name ∷ own) =
    let rest = subst (λ (all : List (List ℕ)). (ids : List NameId) × AreNamed all ids own) (append_assoc names (name ∷ []) own)
    (all_next (names ++ name ∷ []) own) in
    let one = next names name own in
    (one.0 ∷ rest.0, (one.1, rest.1))
