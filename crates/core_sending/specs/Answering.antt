-- The way of an answer: the end that it goes to, or why it isn't written.
use Rattle.std.specs.Prelude.{Bool, ◌==◌, ◌&&◌, not, Option, Some, None, Result, Ok, Err, if◌then◌else◌}
use Rattle.mj_base.specs.declared.ids.EndId.{EndId}
use Rattle.mj_base.specs.declared.ids.SeqId.{SeqId}
use Rattle.message_pipe.specs.Contents.{Contents}
use Rattle.message_pipe.specs.Ends.{end_of, is_closed}
use Rattle.wire_encoder.specs.declared.prepared.Prepared.{Prepared}
use Rattle.wire_model.specs.declared.target.Target.{Target}
use Rattle.bind_model.specs.declared.endpoint.Endpoint.{Endpoint}
use Rattle.bind_model.specs.declared.endpoint.ResponderId.{ResponderId}
use Rattle.bind_model.specs.declared.endpoint.State.{State}
use Rattle.bind_model.specs.declared.endpoint.State.TheVariants as states
use Rattle.bind_model.specs.declared.told.Why.{Why}
use Rattle.bind_model.specs.declared.told.Why.TheVariants.{NoName, Disconnected, Elsewhere, WrongMethod}
use Rattle.bind_model.specs.Replies.{is_response}
use Rattle.core_state.specs.Routers.{Routers, found_at}
use Rattle.core_sending.specs.Fitting.{way_with}
use Rattle.core_sending.specs.declared.carried.CarriedNames.{CarriedNames}
use Rattle.core_sending.specs.declared.answer.Response.{Response}
use Rattle.bind_model.specs.declared.commands.Command.{Command}
use Rattle.bind_model.specs.declared.commands.Command.TheVariants.{Answer}
use Rattle.data_pipe.specs.Table.{Lines}

-- the command that a response came with
abbrev pub command_of : Response → Command
command_of r = Answer r.responder r.prepared r.carried.handles r.carried.pendings r.moment

-- an endpoint in this state isn't closed, nor on another sequence
abbrev pub reached_in : SeqId → Endpoint → State → Result Endpoint Why
reached_in seq e states.Closed = Err Disconnected
reached_in seq e states.Pending = Ok e
reached_in seq e (states.Bound t) = if t.0 == seq.0 then Ok e else Err (Elsewhere t)

-- an endpoint at an end that is closed or not, or why nothing is sent from it
abbrev pub reached : SeqId → Bool → Option Endpoint → Result Endpoint Why
reached seq closed None = Err NoName
reached seq closed (Some e) = if closed then Err Disconnected else reached_in seq e e.state

-- whether a target is the response of the method that a responder is for
abbrev pub answers_to : ResponderId → Target → Bool
answers_to r target = (target.interface == r.interface) && (target.method == r.method) && is_response target.side

-- the end that an answer from an endpoint goes to
abbrev pub way_reached : ResponderId → Prepared → CarriedNames → Contents → Lines → Routers → Result Endpoint Why → Result EndId Why
way_reached r prepared names pipes flows endpoints (Err why) = Err why
way_reached r prepared names pipes flows endpoints (Ok e) =
    if not (answers_to r prepared.target) then Err WrongMethod
    else way_with prepared names pipes flows endpoints r.end e.peer_closed

-- the end that an answer goes to, by whether the caller has the responder and all that goes with it
abbrev pub way_back : SeqId → ResponderId → Prepared → CarriedNames → Bool → Contents → Lines → Routers → Result EndId Why
way_back seq r prepared names own pipes flows endpoints =
    if not own then Err NoName
    else way_reached r prepared names pipes flows endpoints (reached seq (is_closed (end_of pipes.ends r.end)) (found_at endpoints r.end r.id))
