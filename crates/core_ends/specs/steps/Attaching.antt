-- Whether an endpoint that was received may be bound.
use Rattle.std.specs.Prelude.{ℕ, Bool, not, Option, Some, None, if◌then◌else◌}
use Rattle.bind_model.specs.declared.endpoint.Endpoint.{Endpoint}
use Rattle.bind_model.specs.declared.endpoint.State.{State}
use Rattle.bind_model.specs.declared.endpoint.State.TheVariants as states
use Rattle.bind_model.specs.declared.told.Why.{Why}
use Rattle.bind_model.specs.declared.told.Why.TheVariants.{Disconnected, NoName, WrongPipe}

-- why an endpoint in this state isn't bound
abbrev pub why_in : ℕ → State → Option Why
why_in id states.Closed = Some Disconnected
why_in id (states.Bound t) = Some (WrongPipe id)
why_in id states.Pending = None

-- the same, of an endpoint that may not be there
abbrev pub why_found : ℕ → Option Endpoint → Option Why
why_found id None = Some NoName
why_found id (Some e) = why_in id e.state

-- why the endpoint of a pending isn't bound, by whether it is with a caller, and whether its end is closed
abbrev pub why_not : Bool → Bool → ℕ → Option Endpoint → Option Why
why_not there closed id found = if not there then Some NoName else (if closed then Some Disconnected else why_found id found)
