-- The responder that a message gives.
use Rattle.std.specs.Prelude.{ℕ, ◌&&◌, not, Option, Some, None, if◌then◌else◌}
use Rattle.mj_base.specs.declared.ids.EndId.{EndId}
use Rattle.wire_model.specs.declared.target.Target.{Target}
use Rattle.bind_model.specs.Replies.{is_response, same_responder}
use Rattle.bind_model.specs.Wire.{Wire}
use Rattle.bind_model.specs.declared.endpoint.ResponderId.{ResponderId}

-- the responder that a message at y for the endpoint of an id gives
abbrev pub responder_due : Wire → EndId → ℕ → Target → ℕ → Option ResponderId
responder_due wire y id target request =
    if not (is_response target.side) && wire.responds target.interface target.method
    then Some (record { end = y; id = id; request = request; interface = target.interface; method = target.method }) else None

-- how often a name stands there
abbrev pub times_in : Option ResponderId → ResponderId → ℕ
times_in None r = 0
times_in (Some q) r = if same_responder q r then 1 else 0
