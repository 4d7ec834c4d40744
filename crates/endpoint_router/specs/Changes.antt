-- How an end's table of endpoints changes.
use Rattle.std.specs.Prelude.{ℕ, ◌≡◌, ◌+◌, ◌==◌, ◌&&◌, not, if◌then◌else◌, Option, Some, None}
use Rattle.bind_model.specs.Machine.{with_peer_closed, with_state}
use Rattle.bind_model.specs.declared.endpoint.State.{State}
use Rattle.bind_model.specs.declared.endpoint.State.TheVariants as states
use Rattle.endpoint_router.specs.Rows.{Contents, RowSeen, has_place}

-- the row in another state
abbrev pub in_state : State → RowSeen → RowSeen
in_state state row = record { endpoint = with_state state row.endpoint; next = row.next; asked = row.asked }

-- the row with the mark that its peer endpoint is closed
abbrev pub marked : RowSeen → RowSeen
marked row = record { endpoint = with_peer_closed row.endpoint; next = row.next; asked = row.asked }

-- the row when one request more was sent, of this method
abbrev pub with_request : ℕ → RowSeen → RowSeen
with_request method row = record {
  endpoint = row.endpoint;
  next = row.next + 1;
  asked = λ request asks_for. if row.next == request then method == asks_for else row.asked request asks_for;
}

-- the row when the request of this number has ended
abbrev pub without_request : ℕ → RowSeen → RowSeen
without_request ended row = record {
  endpoint = row.endpoint;
  next = row.next;
  asked = λ request method. row.asked request method && not (ended == request);
}

-- a row is of an endpoint that waits to be bound
abbrev pub IsPending : Option RowSeen → Type 0
IsPending None = ⊥
IsPending (Some row) = row.endpoint.state ≡ states.Pending

-- a row is of an endpoint that is bound
abbrev pub IsBound : Option RowSeen → Type 0
IsBound None = ⊥
IsBound (Some row) = elim row.endpoint.state [ states.Bound t ↦ Unit {0} | states.Pending ↦ ⊥ | states.Closed ↦ ⊥ ]

-- the places for rows are the same, and as many ids are drawn
pub record Stays (old new : Contents) : Type 0 where
  pub places : (n : ℕ) → has_place new n ≡ has_place old n
  pub drawn : new.drawn ≡ old.drawn
