-- Whether a pending was received.
use Rattle.std.specs.Prelude.{Bool, true, false, Option, Some, None}
use Rattle.bind_model.specs.declared.endpoint.Endpoint.{Endpoint}
use Rattle.bind_model.specs.declared.endpoint.State.TheVariants as states

-- its endpoint isn't bound yet
abbrev pub is_received : Option Endpoint → Bool
is_received None = false
is_received (Some e) = elim e.state [ states.Pending ↦ true | states.Bound t ↦ false | states.Closed ↦ false ]
