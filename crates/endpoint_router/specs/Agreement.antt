-- What an end's table of endpoints is by the events.
use Rattle.std.specs.Prelude.{ℕ, ◌≡◌, ◌+◌, ◌==◌, ◌&&◌, ◌||◌, not, false, List, [], ◌∷◌, length, Option, Some, if◌then◌else◌}
use Rattle.std.specs.Option.{option_map}
use Rattle.mj_base.specs.declared.ids.EndId.{EndId}
use Rattle.bind_model.specs.Machine.{Entry, associated, endpoint_at, is_closed}
use Rattle.bind_model.specs.Replies.{drawn, is_asked, is_response, next_id}
use Rattle.bind_model.specs.Wire.{Wire}
use Rattle.bind_model.specs.declared.endpoint.Endpoint.{Endpoint}
use Rattle.bind_model.specs.declared.event.Event.{Event}
use Rattle.bind_model.specs.declared.told.Got.{Got}
use Rattle.endpoint_router.specs.Changes.{without_request}
use Rattle.endpoint_router.specs.Rows.{Contents, RowSeen, endpoints_of, is_pending, next_number, own_id, row_at, row_of}

-- the row of an endpoint, with the requests that the events sent from it
abbrev pub row_with : List Event → EndId → ℕ → Endpoint → RowSeen
row_with past x id endpoint = record { endpoint = endpoint; next = length (drawn past x id) + 1; asked = is_asked past x id }

-- the row of an id at an end, as the events give it
abbrev pub row_told : Wire → List Event → EndId → ℕ → Option RowSeen
row_told wire past x id = option_map (row_with past x id) (endpoint_at wire past x id)

-- the table of an end is the one that the events give
pub record Agrees (wire : Wire) (past : List Event) (x : EndId) (contents : Contents) : Type 0 where
  pub rows : (id : ℕ) → row_at contents id ≡ row_told wire past x id
  pub drawn : contents.drawn ≡ length (associated past x)

-- what a table says that agrees with the events
pub record Says (wire : Wire) (past : List Event) (x : EndId) (contents : Contents) : Type 0 where
  pub endpoints : (id : ℕ) → endpoints_of contents id ≡ endpoint_at wire past x id
  -- the next id that the end makes
  pub own_id : own_id contents ≡ next_id wire past x
  -- the number that the next request at an endpoint gets
  pub numbers : (id : ℕ) (e : Endpoint) → endpoint_at wire past x id ≡ Some e → next_number (row_at contents id) ≡ length (drawn past x id) + 1
  -- whether nobody waits for a response that comes to an endpoint which isn't closed
  pub unasked : (id : ℕ) (e : Endpoint) → endpoint_at wire past x id ≡ Some e → is_closed e ≡ false → (request method : ℕ)
      → not (is_pending (row_at contents id) request method) ≡ (e.peer_closed || not (is_asked past x id request method))

-- the row of an id when these endpoints entered
abbrev pub entered_row : List Entry → ℕ → Option RowSeen → Option RowSeen
entered_row [] id before = before
entered_row (e ∷ entries) id before = if e.id == id then Some (row_of e.endpoint) else entered_row entries id before

-- the row of an id when this was got
abbrev pub answered_row : Got → ℕ → Option RowSeen → Option RowSeen
answered_row g id before = if (g.id == id) && is_response g.target.side then option_map (without_request g.request) before else before
