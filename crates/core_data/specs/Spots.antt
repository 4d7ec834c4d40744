-- Where bytes are moved, or why none are.
use Rattle.std.specs.Prelude.{Bool, true, false, not, Option, Some, None, Result, Ok, Err, if◌then◌else◌}
use Rattle.handle_table.specs.Places.{place_of}
use Rattle.handle_table.specs.declared.thing.Thing.{Thing}
use Rattle.handle_table.specs.declared.thing.Thing.TheVariants.{End, Token}
use Rattle.handle_table.specs.declared.thing.TokenId.{TokenId}
use Rattle.message_pipe.specs.Contents.{Contents}
use Rattle.bind_model.specs.declared.flow.Flow.{Flow}
use Rattle.bind_model.specs.declared.flow.Flow.TheVariants as flows
use Rattle.bind_model.specs.declared.told.Why.{Why}
use Rattle.bind_model.specs.declared.told.Why.TheVariants.{NoName, NotData}
use Rattle.data_pipe.specs.Table.{behind, side_in}
use Rattle.data_pipe.specs.declared.side.DataToken.{DataToken}
use Rattle.data_pipe.specs.declared.side.Side.{Side}
use Rattle.data_pipe.specs.declared.side.Side.TheVariants.{Producer, Consumer}
use Rattle.core_state.specs.Agreement.{is_out, is_shut}
use Rattle.core_state.specs.declared.state.State.{State}
use Rattle.core_data.specs.declared.spot.Spot.{Spot}

-- the side that something is asked of
abbrev pub side_asked : Flow → Side
side_asked (flows.Put bytes all) = Producer
side_asked flows.BeginPut = Producer
side_asked (flows.EndPut bytes) = Producer
side_asked (flows.Get n all) = Consumer
side_asked flows.BeginGet = Consumer
side_asked (flows.EndGet n) = Consumer

-- whether two sides are one
abbrev pub same_side : Side → Side → Bool
same_side Producer Producer = true
same_side Consumer Consumer = true
same_side Producer Consumer = false
same_side Consumer Producer = false

-- the token of the other side
abbrev pub other_token : DataToken → TokenId
other_token found = elim found.side [ Producer ↦ behind found.producer | Consumer ↦ found.producer ]

-- whether a token is closed
abbrev pub is_shut_at : Contents → TokenId → Bool
is_shut_at pipes t = is_shut (place_of pipes.table (Token t))

-- a token as it is found: of the side that is asked, or of none
abbrev pub spot_of : Contents → TokenId → Flow → Option DataToken → Result Spot Why
spot_of pipes t f None = Err NotData
spot_of pipes t f (Some found) =
    if not (same_side found.side (side_asked f)) then Err NotData
    else Ok (record { token = t; producer = found.producer; gone = is_shut_at pipes (other_token found) })

-- a thing, which is a token
abbrev pub spot_at : State → Flow → Thing → Result Spot Why
spot_at s f (End x) = Err NotData
spot_at s f (Token t) = spot_of s.pipes t f (side_in s.tables.flows t)

-- and is with its caller
abbrev pub spot_in : State → Thing → Flow → Result Spot Why
spot_in s x f = if not (is_out (place_of s.pipes.table x)) then Err NoName else spot_at s f x
