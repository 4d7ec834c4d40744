-- Who takes at an end, by the bytes of its oldest message.
use Rattle.std.specs.Prelude.{ℕ, Bool, List, Option, Some, None, if◌then◌else◌}
use Rattle.mj_base.specs.declared.ids.EndId.{EndId}
use Rattle.mj_base.specs.declared.ids.SeqId.{SeqId}
use Rattle.message_pipe.specs.Ends.{end_of, is_closed}
use Rattle.message_pipe.specs.declared.message.Message.{Message}
use Rattle.bind_model.specs.Ready.{on_of}
use Rattle.bind_model.specs.declared.endpoint.Endpoint.{Endpoint}
use Rattle.core_state.specs.Routers.{found_at}
use Rattle.core_state.specs.declared.state.State.{State}
use Rattle.bind_core.specs.Takers.{id_meant, taker_meant}

-- by which endpoint a message is for, and by the endpoints of an end
module _ (meant : Message → Option ℕ) (endpoints : ℕ → Option Endpoint) where
  -- nobody takes at an end that is closed, or that has no endpoint 0; else it goes by the endpoint that the oldest message is for
  abbrev pub taker_opened : Bool → Option ℕ → Option Endpoint → Option SeqId
  taker_opened closed id None = None
  taker_opened closed id (Some main) = if closed then None else taker_meant meant endpoints (on_of (Some main)) id

-- the sequence whose take at an end would consume a message or find it bad, where the oldest has these bytes
abbrev pub taker_unread : State → EndId → List ℕ → Option SeqId
taker_unread s x bytes =
    taker_opened (λ m. id_meant m.bytes) (found_at s.endpoints x) (is_closed (end_of s.pipes.ends x)) (id_meant bytes) (found_at s.endpoints x 0)
