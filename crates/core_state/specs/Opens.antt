-- Whether an endpoint is open to a sequence.
use Rattle.std.specs.Prelude.{ℕ, Bool, ◌==◌, Option, Some, None, Result, Ok, Err, if◌then◌else◌}
use Rattle.mj_base.specs.declared.ids.SeqId.{SeqId}
use Rattle.bind_model.specs.declared.endpoint.Endpoint.{Endpoint}
use Rattle.bind_model.specs.declared.endpoint.State.{State}
use Rattle.bind_model.specs.declared.endpoint.State.TheVariants as states
use Rattle.bind_model.specs.declared.told.Why.{Why}
use Rattle.bind_model.specs.declared.told.Why.TheVariants.{NoName, Disconnected, Unbound, Elsewhere}

-- an endpoint in this state is bound on the sequence that asks
abbrev pub opened_in : SeqId → ℕ → Endpoint → State → Result Endpoint Why
opened_in seq id r states.Closed = Err Disconnected
opened_in seq id r states.Pending = Err (Unbound id)
opened_in seq id r (states.Bound t) = if t.0 == seq.0 then Ok r else Err (Elsewhere t)

-- the endpoint of an id at an end that is closed or not, or why it isn't open
abbrev pub opened : SeqId → Bool → ℕ → Option Endpoint → Result Endpoint Why
opened seq closed id None = Err NoName
opened seq closed id (Some r) = if closed then Err Disconnected else opened_in seq id r r.state
