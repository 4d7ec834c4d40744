-- What an end's table of endpoints says.
use Rattle.std.specs.Prelude.{ℕ, Bool, false, ◌+◌, ◌==◌, ◌&&◌, not, List, [], Option, Some, None, if◌then◌else◌, unwrap_or, is_some}
use Rattle.std.specs.Map.{lookup}
use Rattle.std.specs.Option.{option_map}
use Rattle.bind_model.specs.Machine.{Endpoints, is_closed, is_remote}
use Rattle.bind_model.specs.declared.endpoint.Endpoint.{Endpoint}
use Rattle.bind_model.specs.declared.limits.TheConstants.{REMOTE_IDS}
use Rattle.endpoint_router.specs.declared.row.Row.{Row}

-- an endpoint, the number that its next request gets, and for each number and method whether such a request was sent from it and has not ended
pub record RowSeen : Type 0 where
  pub endpoint : Endpoint
  pub next : ℕ
  pub asked : ℕ → ℕ → Bool

-- the rows by their ids, where one without a row is only a place, and how many ids this end drew
pub record Contents : Type 0 where
  pub rows : List (ℕ × Option Row)
  pub drawn : ℕ

-- no endpoints
abbrev pub no_endpoints : Contents
no_endpoints = record { rows = []; drawn = 0 }

-- whether a request that waits with a method, or doesn't wait, waits with this one
abbrev pub waits_with : Option ℕ → ℕ → Bool
waits_with None method = false
waits_with (Some m) method = m == method

-- whether a request of this number and method waits
abbrev pub is_waiting : List (ℕ × Option ℕ) → ℕ → ℕ → Bool
is_waiting requests request method = waits_with (unwrap_or (lookup (λ k. request == k) requests) None) method

-- whether there is a place for a request of this number
abbrev pub has_request : List (ℕ × Option ℕ) → ℕ → Bool
has_request requests request = is_some (lookup (λ k. request == k) requests)

-- what a row says
abbrev pub row_seen : Row → RowSeen
row_seen row = record { endpoint = row.endpoint; next = row.next_request; asked = is_waiting row.requests }

-- the row of an endpoint from which nothing was sent
abbrev pub row_of : Endpoint → RowSeen
row_of endpoint = record { endpoint = endpoint; next = 1; asked = λ request method. false }

-- the row that stands under an id
abbrev pub row_in : List (ℕ × Option Row) → ℕ → Option Row
row_in rows id = unwrap_or (lookup (λ k. id == k) rows) None

-- what the row in a place says; none where there is none
abbrev pub seen_in : Option Row → Option RowSeen
seen_in place = option_map row_seen place

-- what the row of an id says; none where the id isn't there
abbrev pub row_at : Contents → ℕ → Option RowSeen
row_at contents id = seen_in (row_in contents.rows id)

-- the endpoints by their ids
abbrev pub endpoints_of : Contents → Endpoints
endpoints_of contents id = option_map (λ (row : RowSeen). row.endpoint) (row_at contents id)

-- whether there is a place for the row of an id
abbrev pub has_place : Contents → ℕ → Bool
has_place contents id = is_some (lookup (λ k. id == k) contents.rows)

-- whether a row has a place for the next request
abbrev pub has_room : Option Row → Bool
has_room None = false
has_room (Some row) = has_request row.requests row.next_request

-- whether the endpoint of an id has a place for the next request
abbrev pub can_draw : Contents → ℕ → Bool
can_draw contents id = has_room (row_in contents.rows id)

-- the number that the next request of a row gets
abbrev pub next_number : Option RowSeen → ℕ
next_number None = 0
next_number (Some row) = row.next

-- whether a request of a row waits for its response: where the peer endpoint is known to be closed, or the endpoint itself is, all have ended
abbrev pub is_pending : Option RowSeen → ℕ → ℕ → Bool
is_pending None request method = false
is_pending (Some row) request method = not (is_closed row.endpoint) && not row.endpoint.peer_closed && row.asked request method

-- the next id that the end makes
abbrev pub own_id : Contents → ℕ
own_id contents = contents.drawn + 1 + (if is_remote (endpoints_of contents 0) then REMOTE_IDS else 0)
