-- The way of a message: the end that it goes to, or why it isn't written.
use Rattle.std.specs.Prelude.{ℕ, Bool, ◌==◌, ◌&&◌, ◌||◌, not, nat_le, List, Option, Some, None, Result, Ok, Err, if◌then◌else◌}
use Rattle.std.specs.Option.{option_map}
use Rattle.mj_base.specs.declared.limits.TheConstants.{MAX_UNREAD_MESSAGES}
use Rattle.mj_base.specs.declared.ids.EndId.{EndId}
use Rattle.handle_table.specs.Things.{has}
use Rattle.handle_table.specs.declared.thing.Thing.{Thing}
use Rattle.handle_table.specs.declared.thing.Thing.TheVariants.{End}
use Rattle.handle_table.specs.declared.thing.TokenId.{TokenId}
use Rattle.message_pipe.specs.Contents.{Contents}
use Rattle.message_pipe.specs.Ends.{end_of, is_closed, unread_at}
use Rattle.message_pipe.specs.Mail.{weighs}
use Rattle.wire_model.specs.declared.target.Target.{Target}
use Rattle.bind_model.specs.declared.told.Why.{Why}
use Rattle.bind_model.specs.declared.told.Why.TheVariants.{NoName, Disconnected, SelfSend, Full, Busy}
use Rattle.data_pipe.specs.Table.{Lines, first_begun}
use Rattle.bind_model.specs.Replies.{is_response}

-- whether a target is a request of this interface
abbrev pub asks_of : ℕ → Target → Bool
asks_of interface target = (target.interface == interface) && not (is_response target.side)

-- unless there is a reason against it
abbrev pub way_unless : Option Why → Result EndId Why → Result EndId Why
way_unless None way = way
way_unless (Some why) way = Err why

-- the first token at which something was begun goes nowhere
abbrev pub busy_in : Lines → List Thing → Option Why
busy_in flows things = option_map (λ (t : TokenId). Busy t) (first_begun flows things)

-- an end that a message with these handles goes to
abbrev pub way_at : Contents → Lines → Bool → List Thing → EndId → Result EndId Why
way_at pipes flows peer_closed things x =
    if has things (End x) then Err SelfSend
    else way_unless (busy_in flows things)
    (if is_closed (end_of pipes.ends x) || peer_closed then Err Disconnected
    else (if nat_le MAX_UNREAD_MESSAGES (weighs (unread_at pipes.ends x)) then Err Full
    else Ok x))

-- the end that a message goes to, by the other end of its pipe
abbrev pub way_to : Contents → Lines → Bool → List Thing → Option EndId → Result EndId Why
way_to pipes flows peer_closed things None = Err NoName
way_to pipes flows peer_closed things (Some x) = way_at pipes flows peer_closed things x
