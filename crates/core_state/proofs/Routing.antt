-- Routers that change one after the other.
use Rattle.std.proofs.Common.{◌≡◌, ◌⊎◌, ℕ, true, false, List, [], ◌∷◌, ◌++◌, ap, sym, ◌∙◌, inl, inr}
use Rattle.std.specs.Prelude.{◌==◌, Result, Ok, Err, OnOk, OnErr, IsTrue}
use Rattle.std.proofs.lemmas.Bool.{eqb-true}
use Rattle.handle_table.proofs.ThingsLemmas.{or_cases, or_left, or_right}
use Rattle.bind_model.specs.Laws.{has_number}
use Rattle.bind_model.specs.Machine.{Entry}
use Rattle.bind_model.specs.Tables.{ids_of_entries}
use Rattle.endpoint_router.specs.Rows.{Contents, has_place}
use Rattle.endpoint_router.specs.Turns.{IsSame, PlacesStay}
use Rattle.core_state.specs.Entries.{ArePlaced}

pub on_err : {A B E : Type 0} {Y : Type 0} (r : Result Y E) → (A → B) → OnErr r A → OnErr r B
on_err (Ok v) f h = tt
on_err (Err e) f h = f h

pub on_ok : {A B E : Type 0} {Y : Type 0} (r : Result Y E) → (A → B) → OnOk r A → OnOk r B
on_ok (Ok v) f h = f h
on_ok (Err e) f h = tt

-- what is the same twice
pub same_twice : (old mid new : Contents) → IsSame old mid → IsSame mid new → IsSame old new
same_twice old mid new s t = record { rows = λ n. t.rows n ∙ s.rows n; drawn = t.drawn ∙ s.drawn }

-- none of none has a place to be made
pub none_placed : (c : Contents) → ArePlaced c []
none_placed c id h = absurd (let f : false ≡ true = h in cc)

-- one more has a place, and those before keep theirs
pub placed_next : (before now : Contents) (xs : List Entry) (e : Entry) → ArePlaced before xs → PlacesStay before now → IsTrue (has_place now e.id)
    → ArePlaced now (xs ++ e ∷ [])
placed_next before now [] e placed stay there id h = elim (or_cases (e.id == id) false h) [
  | inl is ↦ ap (λ (k : ℕ). has_place now k) (sym (eqb-true e.id id is)) ∙ there
  | inr none ↦ absurd (let f : false ≡ true = none in cc)
]
placed_next before now (x ∷ xs) e placed stay there id h =
    go (or_cases (x.id == id) (has_number (ids_of_entries (xs ++ e ∷ [])) id) h)
    (placed_next before now xs e (λ k g. placed k (or_right (x.id == k) (has_number (ids_of_entries xs) k) g)) stay there id)
  where
    go : ((x.id == id) ≡ true) ⊎ (has_number (ids_of_entries (xs ++ e ∷ [])) id ≡ true)
        → (has_number (ids_of_entries (xs ++ e ∷ [])) id ≡ true → IsTrue (has_place now id)) → IsTrue (has_place now id)
    go (inl is) rest = stay id (placed id (or_left (x.id == id) (has_number (ids_of_entries xs) id) is))
    go (inr more) rest = rest more
