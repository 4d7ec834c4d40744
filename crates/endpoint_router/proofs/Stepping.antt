-- Endpoints that enter one after the other.
use Rattle.std.proofs.Common.{◌≡◌, ℕ, Bool, true, false, List, [], ◌∷◌, ◌++◌, Some, refl, sym, ◌∙◌}
use Rattle.std.specs.Prelude.{if◌then◌else◌, ◌==◌, Option}
use Rattle.std.proofs.lemmas.Bool.{eq-eqb, eqb-true, ne_eqb}
use Rattle.handle_table.proofs.ThingsLemmas.{not_left, not_right}
use Rattle.bind_model.specs.Laws.{has_number}
use Rattle.bind_model.specs.Machine.{Entry}
use Rattle.bind_model.specs.Tables.{ids_of_entries}
use Rattle.endpoint_router.specs.Agreement.{entered_row}
use Rattle.endpoint_router.specs.Rows.{RowSeen, row_of}

-- an id that isn't among them
pub none_enters : (entries : List Entry) (id : ℕ) (before : Option RowSeen) → has_number (ids_of_entries entries) id ≡ false
    → entered_row entries id before ≡ before
none_enters [] id before h = refl
none_enters (e ∷ entries) id before h =
    let here : (e.id == id) ≡ false = not_left (e.id == id) (has_number (ids_of_entries entries) id) h in
    rw here (none_enters entries id before (not_right (e.id == id) (has_number (ids_of_entries entries) id) h))

-- the last one
pub last_enters : (entries : List Entry) (e : Entry) (id : ℕ) (before : Option RowSeen) → has_number (ids_of_entries entries) e.id ≡ false
    → entered_row (entries ++ e ∷ []) id before ≡ (if e.id == id then Some (row_of e.endpoint) else entered_row entries id before)
last_enters [] e id before h = refl
last_enters (d ∷ entries) e id before h =
    go (d.id == id) refl (last_enters entries e id before (not_right (d.id == e.id) (has_number (ids_of_entries entries) e.id) h))
  where
    other : (d.id == e.id) ≡ false
    other = not_left (d.id == e.id) (has_number (ids_of_entries entries) e.id) h

    go : (b : Bool) → (d.id == id) ≡ b
        → entered_row (entries ++ e ∷ []) id before ≡ (if e.id == id then Some (row_of e.endpoint) else entered_row entries id before)
        → (if b then Some (row_of d.endpoint) else entered_row (entries ++ e ∷ []) id before)
        ≡ (if e.id == id then Some (row_of e.endpoint) else (if b then Some (row_of d.endpoint) else entered_row entries id before))
    go true f rest =
        let is : d.id ≡ id = eqb-true d.id id f in
        let apart : (e.id == id) ≡ false = ne_eqb e.id id (λ same.
        let t : (d.id == e.id) ≡ true = eq-eqb d.id e.id (is ∙ sym same) in
        let clash : true ≡ false = sym t ∙ other in
        cc) in
        rw apart refl
    go false f rest = rest
