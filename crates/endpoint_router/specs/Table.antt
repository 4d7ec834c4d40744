-- The endpoints of all ends in one table.
use Rattle.std.specs.Prelude.{ℕ, Bool, List, [], ◌∷◌, Option, if◌then◌else◌, unwrap_or, is_some}
use Rattle.std.specs.Map.{lookup}
use Rattle.mj_base.specs.declared.ids.EndId.{EndId}
use Rattle.handle_table.specs.Things.{same_end}
use Rattle.bind_model.specs.declared.names.EndpointName.{EndpointName}
use Rattle.endpoint_router.specs.Rows.{Contents}
use Rattle.endpoint_router.specs.declared.row.Row.{Row}

-- for each name its row, where one without a row is only a place, and for ends how many ids they drew
pub record Table : Type 0 where
  pub places : List (EndpointName × Option Row)
  pub drawn : List (EndId × ℕ)

-- no endpoints
abbrev pub no_ends : Table
no_ends = record { places = []; drawn = [] }

-- the places of one end, by their ids
abbrev pub places_of : EndId → List (EndpointName × Option Row) → List (ℕ × Option Row)
places_of x [] = []
places_of x (e ∷ places) = if same_end x e.0.end then (e.0.id, e.1) ∷ places_of x places else places_of x places

-- how many ids an end drew
abbrev pub drawn_of : List (EndId × ℕ) → EndId → ℕ
drawn_of drawn x = unwrap_or (lookup (same_end x) drawn) 0

-- whether there is a place for how many ids an end drew
abbrev pub is_counted : List (EndId × ℕ) → EndId → Bool
is_counted drawn x = is_some (lookup (same_end x) drawn)

-- the endpoints of one end
abbrev pub router_of : Table → EndId → Contents
router_of table x = record { rows = places_of x table.places; drawn = drawn_of table.drawn x }
