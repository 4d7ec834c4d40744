-- Pendings that are spent, one after the other.
use Rattle.std.proofs.Common.{◌≡◌, Bool, List}
use Rattle.std.specs.Prelude.{◌&&◌, not}
use Rattle.bind_model.specs.Pendings.{Half, is_out, names_of}
use Rattle.bind_model.specs.Replies.{has_pending}
use Rattle.bind_model.specs.declared.endpoint.PendingId.{PendingId}
use Rattle.bind_model.specs.declared.names.EndpointName.{EndpointName}

-- with those that are left all will be spent
abbrev pub Remain : List Half → List Half → List (EndpointName × Bool) → List (EndpointName × Bool) → Type 0
Remain all left old now = (p : PendingId) → (is_out now p && not (has_pending (names_of left) p)) ≡ (is_out old p && not (has_pending (names_of all) p))
