-- How one end's endpoints change, where something holds; where it doesn't, nothing changes.
use Rattle.std.specs.Prelude.{ℕ, ◌≡◌, ◌≤◌, ◌<◌, ◌+◌, ◌==◌, ◌&&◌, Bool, Some, None, if◌then◌else◌, IsTrue, IsSome}
use Rattle.std.specs.Option.{option_map}
use Rattle.mj_base.specs.declared.limits.TheConstants.{MAX_EVENTS}
use Rattle.bind_model.specs.declared.endpoint.Endpoint.{Endpoint}
use Rattle.bind_model.specs.declared.endpoint.State.TheVariants as states
use Rattle.endpoint_router.specs.Changes.{IsBound, IsPending, in_state, marked, with_request, without_request}
use Rattle.endpoint_router.specs.Rows.{Contents, RowSeen, can_draw, has_place, next_number, own_id, row_at, row_of}
use Rattle.endpoint_router.specs.declared.turns.Turn.{Turn}
use Rattle.endpoint_router.specs.declared.turns.Turn.TheVariants as turns

-- what becomes of a row
abbrev pub turn_of : Turn → RowSeen → RowSeen
turn_of (turns.Attached seq) = in_state (states.Bound seq)
turn_of turns.Closed = in_state states.Closed
turn_of turns.PeerClosed = marked
turn_of (turns.Sent method) = with_request method
turn_of (turns.Answered request) = without_request request

-- a request is sent from a bound endpoint that has a place for it, and there are no more than events
pub record CanSend (c : Contents) (id : ℕ) : Type 0 where
  pub bound : IsBound (row_at c id)
  pub few : next_number (row_at c id) ≤ MAX_EVENTS
  pub room : IsTrue (can_draw c id)

-- whether the endpoint of an id may turn so
abbrev pub CanTurn : Contents → ℕ → Turn → Type 0
CanTurn c id (turns.Attached seq) = IsPending (row_at c id)
CanTurn c id turns.Closed = IsSome (row_at c id)
CanTurn c id turns.PeerClosed = IsSome (row_at c id)
CanTurn c id (turns.Sent method) = CanSend c id
CanTurn c id (turns.Answered request) = Unit {0}

-- nothing of a router changes that can be seen
pub record IsSame (old new : Contents) : Type 0 where
  pub rows : (n : ℕ) → row_at new n ≡ row_at old n
  pub drawn : new.drawn ≡ old.drawn

-- where this holds, the row of an id turns into another
pub record TurnsIf (f : RowSeen → RowSeen) (id : ℕ) (here : Bool) (old new : Contents) : Type 0 where
  pub rows : (n : ℕ) → row_at new n ≡ (if here && (id == n) then option_map f (row_at old n) else row_at old n)
  pub drawn : new.drawn ≡ old.drawn

-- where this holds, an endpoint from which nothing was sent stands under an id
pub record EntersIf (endpoint : Endpoint) (id : ℕ) (here : Bool) (old new : Contents) : Type 0 where
  pub rows : (n : ℕ) → row_at new n ≡ (if here && (id == n) then Some (row_of endpoint) else row_at old n)
  pub drawn : new.drawn ≡ old.drawn

-- where this holds, an endpoint enters under the next id that the end makes
pub record AssociatesIf (endpoint : Endpoint) (here : Bool) (old new : Contents) : Type 0 where
  pub rows : (n : ℕ) → row_at new n ≡ (if here && (own_id old == n) then Some (row_of endpoint) else row_at old n)
  pub drawn : new.drawn ≡ old.drawn + (if here then 1 else 0)

-- an endpoint may enter under the next id that the end makes: for it there is a place, and no row yet
pub record CanAssociate (c : Contents) : Type 0 where
  pub few : c.drawn < MAX_EVENTS
  pub absent : row_at c (own_id c) ≡ None
  pub place : IsTrue (has_place c (own_id c))

-- each place stays
abbrev pub PlacesStay : Contents → Contents → Type 0
PlacesStay old new = (n : ℕ) → IsTrue (has_place old n) → IsTrue (has_place new n)
