-- Places in slots, each found by its name: what an index of names and the slots have together.
use Rattle.std.specs.Prelude.{ℕ, ◌≡◌, true, List, [], ◌∷◌, Option, Some, None, slice_index_or}
use Rattle.std.specs.Map.{lookup}
use Rattle.mj_base.specs.declared.ids.EndId.{EndId}
use Rattle.bind_model.specs.Names.{endpoint_name, is_named}
use Rattle.bind_model.specs.declared.names.EndpointName.{EndpointName}
use Rattle.endpoint_router.specs.Table.{Table, is_counted}
use Rattle.endpoint_router.specs.declared.slot.Placed.{Placed}
use Rattle.endpoint_router.specs.declared.row.Row.{Row}

-- an index: for each name the key of a slot
abbrev pub Keys : Type 0
Keys = List (EndpointName × ℕ)

-- slots, each with a place or empty
abbrev pub Slots : Type 0
Slots = List (Option Placed)

-- what is in the slot of a key
abbrev pub slot_at : Slots → ℕ → Option Placed
slot_at slots key = slice_index_or slots key None

-- the name that a slot says
abbrev pub name_there : Option Placed → Option EndpointName
name_there None = None
name_there (Some placed) = Some placed.name

-- the row in it
abbrev pub row_there : Option Placed → Option Row
row_there None = None
row_there (Some placed) = placed.row

-- the key of the endpoint of an id at an end
abbrev pub key_in : Keys → EndId → ℕ → Option ℕ
key_in keys x id = lookup (is_named x id) keys

-- the rows by their names
abbrev pub places_in : List (EndpointName × ℕ) → Slots → List (EndpointName × Option Row)
places_in [] slots = []
places_in (e ∷ keys) slots = (e.0, row_there (slot_at slots e.1)) ∷ places_in keys slots

-- what contracts see
abbrev pub table_in : Keys → Slots → List (EndId × ℕ) → Table
table_in keys slots drawn = record { places = places_in keys slots; drawn = drawn }

-- each name leads to a slot that says it
abbrev pub AreNamed : Keys → Slots → Type 0
AreNamed keys slots = (x : EndId) (id key : ℕ) → key_in keys x id ≡ Some key → name_there (slot_at slots key) ≡ Some (endpoint_name x id)

-- each end with a name has a place for how many ids it drew
abbrev pub AreCounted : Keys → List (EndId × ℕ) → Type 0
AreCounted keys drawn = (x : EndId) (id key : ℕ) → key_in keys x id ≡ Some key → is_counted drawn x ≡ true

-- both
pub record IsIndexed (keys : Keys) (slots : Slots) (drawn : List (EndId × ℕ)) : Type 0 where
  pub named : AreNamed keys slots
  pub counted : AreCounted keys drawn
