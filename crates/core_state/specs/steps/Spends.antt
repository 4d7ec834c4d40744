-- Pendings that go with a message: the endpoints that they name, and that they are out no longer.
use Rattle.std.specs.Prelude.{◌≡◌, Bool, ◌&&◌, not, List, map}
use Rattle.bind_model.specs.Names.{endpoint_name}
use Rattle.bind_model.specs.Pendings.{is_out}
use Rattle.bind_model.specs.Replies.{has_pending}
use Rattle.bind_model.specs.declared.endpoint.PendingId.{PendingId}
use Rattle.bind_model.specs.declared.names.EndpointName.{EndpointName}

-- the endpoints that pendings name
abbrev pub endpoint_names : List PendingId → List EndpointName
endpoint_names ps = map (λ (p : PendingId). endpoint_name p.end p.id) ps

-- these are out no longer
abbrev pub SpendsAll : List PendingId → List (EndpointName × Bool) → List (EndpointName × Bool) → Type 0
SpendsAll ps old new = (p : PendingId) → is_out new p ≡ (is_out old p && not (has_pending ps p))
