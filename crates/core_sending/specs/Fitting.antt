-- The way of a message from an endpoint: whether what goes with it fits, and the end that it goes to.
use Rattle.std.specs.Prelude.{ℕ, Bool, ◌==◌, ◌&&◌, not, length, Result, Ok, Err, if◌then◌else◌}
use Rattle.mj_base.specs.declared.ids.EndId.{EndId}
use Rattle.mj_base.specs.declared.ids.SeqId.{SeqId}
use Rattle.message_pipe.specs.Contents.{Contents}
use Rattle.message_pipe.specs.Ends.{end_of, is_closed, peer_of}
use Rattle.wire_encoder.specs.declared.prepared.Prepared.{Prepared}
use Rattle.bind_model.specs.Replies.{is_receiver}
use Rattle.bind_model.specs.declared.endpoint.Endpoint.{Endpoint}
use Rattle.bind_model.specs.declared.told.Why.{Why}
use Rattle.bind_model.specs.declared.told.Why.TheVariants.{NoName, WrongSide, WrongMethod, WrongTokens}
use Rattle.core_state.specs.Routers.{Routers, found_at}
use Rattle.core_sending.specs.Carrying.{all_fit, wrong_pipe}
use Rattle.core_state.specs.Opens.{opened}
use Rattle.core_sending.specs.Ways.{asks_of, way_to, way_unless}
use Rattle.data_pipe.specs.Table.{Lines}
use Rattle.core_sending.specs.declared.carried.CarriedNames.{CarriedNames}

-- whether there are as many handles as the parameters name, and the pendings that they want
abbrev pub suits : Prepared → CarriedNames → Routers → Bool
suits prepared names endpoints = (length names.things == prepared.handles) && all_fit endpoints names.pendings prepared.endpoints.items

-- the end that a message with this goes to from an end
abbrev pub way_with : Prepared → CarriedNames → Contents → Lines → Routers → EndId → Bool → Result EndId Why
way_with prepared names pipes flows endpoints y peer_closed =
    if not (suits prepared names endpoints) then Err WrongTokens
    else way_unless (wrong_pipe endpoints y names.pendings) (way_to pipes flows peer_closed names.things (peer_of (end_of pipes.ends y)))

-- the end that a call from an open endpoint goes to
abbrev pub way_open : Prepared → CarriedNames → Contents → Lines → Routers → EndId → Result Endpoint Why → Result EndId Why
way_open prepared names pipes flows endpoints y (Err why) = Err why
way_open prepared names pipes flows endpoints y (Ok r) =
    if is_receiver r.side then Err WrongSide
    else (if not (asks_of r.interface prepared.target) then Err WrongMethod
    else way_with prepared names pipes flows endpoints y r.peer_closed)

-- the end that a call goes to, by whether the caller has all that goes with it
abbrev pub way : SeqId → EndId → ℕ → Prepared → CarriedNames → Bool → Contents → Lines → Routers → Result EndId Why
way seq y id prepared names own pipes flows endpoints =
    if not own then Err NoName
    else way_open prepared names pipes flows endpoints y (opened seq (is_closed (end_of pipes.ends y)) id (found_at endpoints y id))
