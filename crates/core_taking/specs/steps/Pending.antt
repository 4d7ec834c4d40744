-- Endpoints that enter as pending, and the rights to them.
use Rattle.std.specs.Prelude.{ℕ, ◌≡◌, Bool, true, List, map, filter}
use Rattle.mj_base.specs.declared.ids.EndId.{EndId}
use Rattle.bind_model.specs.Laws.{has_number}
use Rattle.bind_model.specs.Machine.{Entry}
use Rattle.bind_model.specs.Pendings.{Half}
use Rattle.bind_model.specs.declared.endpoint.PendingId.{PendingId}
use Rattle.bind_model.specs.declared.names.EndpointName.{EndpointName}
use Rattle.bind_model.specs.Pendings.{has_place}
use Rattle.core_taking.specs.Founds.{is_pending, pending_ids}

-- the name of a pending at an end
abbrev pub pending_at : EndId → ℕ → PendingId
pending_at y id = record { end = y; id = id }

-- what the pending of an endpoint that enters at an end stands for
abbrev pub half_entered : EndId → Entry → Half
half_entered y e = record { name = record { end = y; id = e.id }; side = e.endpoint.side; interface = e.endpoint.interface }

-- those of all that enter as pending, in order
abbrev pub halves_from : EndId → List Entry → List Half
halves_from y entries = map (half_entered y) (filter (λ (e : Entry). is_pending e.endpoint) entries)

-- there is a place for each that enters as pending
abbrev pub HavePlaces : List (EndpointName × Bool) → EndId → List Entry → Type 0
HavePlaces pendings y entries = (id : ℕ) → has_number (pending_ids entries) id ≡ true → has_place pendings (pending_at y id) ≡ true
