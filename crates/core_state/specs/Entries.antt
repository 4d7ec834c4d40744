-- Endpoints that enter the table of an end.
use Rattle.std.specs.Prelude.{ℕ, ◌≡◌, Bool, true, List, None, if◌then◌else◌, IsTrue}
use Rattle.mj_base.specs.declared.ids.EndId.{EndId}
use Rattle.handle_table.specs.Things.{same_end}
use Rattle.bind_model.specs.Laws.{all_differ, has_number}
use Rattle.bind_model.specs.Machine.{Entry}
use Rattle.bind_model.specs.Tables.{ids_of_entries}
use Rattle.endpoint_router.specs.Agreement.{entered_row}
use Rattle.endpoint_router.specs.Rows.{Contents, has_place, row_at}
use Rattle.core_state.specs.Routers.{Routers, router_at}

-- there is a place for each of these
abbrev pub ArePlaced : Contents → List Entry → Type 0
ArePlaced c entries = (id : ℕ) → has_number (ids_of_entries entries) id ≡ true → IsTrue (has_place c id)

-- no two have one id, and each is new and has a place
pub record AreNew (c : Contents) (entries : List Entry) : Type 0 where
  pub once : all_differ (ids_of_entries entries) ≡ true
  pub absent : (id : ℕ) → has_number (ids_of_entries entries) id ≡ true → row_at c id ≡ None
  pub places : ArePlaced c entries

-- where this holds, they enter
pub record AllEnterIf (entries : List Entry) (here : Bool) (old new : Contents) : Type 0 where
  pub rows : (n : ℕ) → row_at new n ≡ (if here then entered_row entries n (row_at old n) else row_at old n)
  pub drawn : new.drawn ≡ old.drawn

-- they enter at an end, and nowhere else
abbrev pub AllEnterAt : List Entry → EndId → Routers → Routers → Type 0
AllEnterAt entries x old new = (y : EndId) → AllEnterIf entries (same_end x y) (router_at old y) (router_at new y)
