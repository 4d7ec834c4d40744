-- Why an end doesn't wait for another.
use Rattle.std.specs.Prelude.{Bool, Option, Some, None, if◌then◌else◌}
use Rattle.mj_base.specs.declared.ids.EndId.{EndId}
use Rattle.mj_base.specs.declared.ids.SeqId.{SeqId}
use Rattle.handle_table.specs.Things.{same_end}
use Rattle.message_pipe.specs.Ends.{end_of, is_closed}
use Rattle.bind_model.specs.declared.endpoint.Endpoint.{Endpoint}
use Rattle.bind_model.specs.declared.told.Why.{Why}
use Rattle.bind_model.specs.declared.told.Why.TheVariants.{NoName, Disconnected, SelfPause}
use Rattle.bind_model.specs.Replies.{elsewhere}
use Rattle.core_state.specs.Routers.{found_at}
use Rattle.core_state.specs.declared.state.State.{State}

-- this reason, or else another
abbrev pub or_why : Option Why → Option Why → Option Why
or_why (Some why) other = Some why
or_why None other = other

-- that of an end that is closed or not, for another that is or isn't, by their endpoints 0
abbrev pub unpaused_by : SeqId → EndId → EndId → Bool → Bool → Option Endpoint → Option Endpoint → Option Why
unpaused_by seq b a shut away None at_a = Some NoName
unpaused_by seq b a shut away (Some rb) None = Some NoName
unpaused_by seq b a shut away (Some rb) (Some ra) =
    if shut then Some Disconnected
    else or_why (elsewhere seq rb) (or_why (if away then None else elsewhere seq ra) (if same_end b a then Some SelfPause else None))

-- that of an end for another
abbrev pub no_pause : State → SeqId → EndId → EndId → Option Why
no_pause s seq b a =
    unpaused_by seq b a (is_closed (end_of s.pipes.ends b)) (is_closed (end_of s.pipes.ends a)) (found_at s.endpoints b 0) (found_at s.endpoints a 0)
