-- What is seen of places by an index and its slots, and how these change.
use Rattle.std.specs.Prelude.{ℕ, ◌≡◌, ◌≤◌, ◌+◌, ◌==◌, ◌&&◌, ◌||◌, true, List, Option, Some, None, if◌then◌else◌, unwrap_or, is_some, IsTrue}
use Rattle.std.specs.Option.{option_map}
use Rattle.mj_base.specs.declared.ids.EndId.{EndId}
use Rattle.mj_base.specs.declared.limits.TheConstants.{MAX_EVENTS}
use Rattle.handle_table.specs.Things.{same_end}
use Rattle.bind_model.specs.Machine.{is_remote}
use Rattle.bind_model.specs.declared.endpoint.Endpoint.{Endpoint}
use Rattle.bind_model.specs.declared.limits.TheConstants.{REMOTE_IDS}
use Rattle.endpoint_router.specs.Rows.{RowSeen, has_room, next_number, seen_in}
use Rattle.endpoint_router.specs.Table.{drawn_of, is_counted}
use Rattle.endpoint_router.specs.Slots.{Keys, Slots, slot_at, row_there, key_in, AreNamed, AreCounted}
use Rattle.endpoint_router.specs.declared.row.Row.{Row}
use Rattle.endpoint_router.specs.declared.turns.Turn.{Turn}
use Rattle.endpoint_router.specs.declared.turns.Turn.TheVariants as turns

-- the row under a key, where there is a key
abbrev pub row_under : Slots → Option ℕ → Option Row
row_under slots o = unwrap_or (option_map (λ (key : ℕ). row_there (slot_at slots key)) o) None

-- the row of the endpoint of an id at an end
abbrev pub row_by : Keys → Slots → EndId → ℕ → Option Row
row_by keys slots x id = row_under slots (key_in keys x id)

-- what it says
abbrev pub seen_by : Keys → Slots → EndId → ℕ → Option RowSeen
seen_by keys slots x id = seen_in (row_by keys slots x id)

-- its endpoint
abbrev pub endpoint_by : Keys → Slots → EndId → ℕ → Option Endpoint
endpoint_by keys slots x id = option_map (λ (row : RowSeen). row.endpoint) (seen_by keys slots x id)

-- the next id that an end makes
abbrev pub own_by : Keys → Slots → List (EndId × ℕ) → EndId → ℕ
own_by keys slots drawn x = drawn_of drawn x + 1 + (if is_remote (endpoint_by keys slots x 0) then REMOTE_IDS else 0)

-- this becomes of the row of an id at an end, and nothing of others
pub record Becomes (f : Option RowSeen → Option RowSeen) (x : EndId) (id : ℕ) (keys : Keys) (old new : Slots) : Type 0 where
  pub rows : (y : EndId) (n : ℕ) → seen_by keys new y n ≡ (if same_end x y && (id == n) then f (seen_by keys old y n) else seen_by keys old y n)
  pub named : AreNamed keys new

-- this row stands under an id at an end from now on
abbrev pub Puts : RowSeen → EndId → ℕ → Keys → Slots → Slots → Type 0
Puts row x id keys old new = Becomes (λ (before : Option RowSeen). Some row) x id keys old new

-- no row changes
abbrev pub RowsStay : Keys → Slots → Slots → Type 0
RowsStay keys old new = (y : EndId) (n : ℕ) → seen_by keys new y n ≡ seen_by keys old y n

-- a name has a place from now on, and nothing else changes
pub record Places (x : EndId) (id : ℕ) (keys : Keys) (old : Slots) (more : Keys) (new : Slots) : Type 0 where
  pub rows : (y : EndId) (n : ℕ) → seen_by more new y n ≡ seen_by keys old y n
  pub places : (y : EndId) (n : ℕ) → is_some (key_in more y n) ≡ ((same_end x y && (id == n)) || is_some (key_in keys y n))
  pub named : AreNamed more new
  pub counted : (drawn : List (EndId × ℕ)) → AreCounted keys drawn → is_counted drawn x ≡ true → AreCounted more drawn

-- this row stands under an id at an end from now on, which may have been named for it
abbrev pub Enters : RowSeen → EndId → ℕ → Keys → Slots → Keys → Slots → Type 0
Enters row x id keys old more new =
    (y : EndId) (n : ℕ) → seen_by more new y n ≡ (if same_end x y && (id == n) then Some row else seen_by keys old y n)

-- nothing changes but that there may be more places
pub record IsKept (keys : Keys) (old : Slots) (before : List (EndId × ℕ)) (more : Keys) (new : Slots) (now : List (EndId × ℕ)) : Type 0 where
  pub rows : (y : EndId) (n : ℕ) → seen_by more new y n ≡ seen_by keys old y n
  pub stay : (y : EndId) (n : ℕ) → is_some (key_in keys y n) ≡ true → is_some (key_in more y n) ≡ true
  pub drawn : (y : EndId) → drawn_of now y ≡ drawn_of before y

-- a row may turn so: where a request is sent, its number is within the limit and has a place
abbrev pub MayTurn : Option Row → Turn → Type 0
MayTurn row (turns.Sent method) = IsTrue (has_room row) × (next_number (seen_in row) ≤ MAX_EVENTS)
MayTurn row turn = Unit {0}
