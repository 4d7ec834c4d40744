-- The way of raw bytes: the end that they go to, or why they aren't written.
use Rattle.std.specs.Prelude.{ℕ, Bool, false, ◌&&◌, not, nat_lt, List, length, Result, Err, if◌then◌else◌}
use Rattle.mj_base.specs.declared.ids.EndId.{EndId}
use Rattle.handle_table.specs.Places.{place_of}
use Rattle.handle_table.specs.Things.{has}
use Rattle.handle_table.specs.declared.thing.Thing.{Thing}
use Rattle.handle_table.specs.declared.thing.Thing.TheVariants.{End, Token}
use Rattle.message_pipe.specs.Contents.{Contents}
use Rattle.message_pipe.specs.Ends.{end_of, peer_of}
use Rattle.bind_model.specs.declared.limits.TheConstants.{MAX_RAW_BYTES, MAX_RAW_HANDLES}
use Rattle.bind_model.specs.declared.told.Why.{Why}
use Rattle.bind_model.specs.declared.told.Why.TheVariants.{NoName, NotPipe, TooLong, TooManyHandles}
use Rattle.bind_model.specs.declared.commands.Command.{Command}
use Rattle.bind_model.specs.declared.commands.Command.TheVariants as commands
use Rattle.core_state.specs.Agreement.{is_out}
use Rattle.core_state.specs.Placing.{all_out}
use Rattle.core_sending.specs.Ways.{way_to}
use Rattle.core_sending.specs.declared.raw.RawBytes.{RawBytes}
use Rattle.data_pipe.specs.Table.{Lines}

-- the command that raw bytes came with
abbrev pub command_of : RawBytes → Command
command_of r = commands.Raw r.handle r.bytes r.handles

-- whether the handles of a thing and of all others are with callers, and none stands twice
abbrev pub all_out_with : Contents → Thing → List Thing → Bool
all_out_with pipes x things = is_out (place_of pipes.table x) && (not (has things x) && all_out pipes things)

-- the end that so many bytes go to from a thing
abbrev pub raw_way_from : Thing → ℕ → List Thing → Contents → Lines → Result EndId Why
raw_way_from (Token t) bytes things pipes flows = Err NotPipe
raw_way_from (End x) bytes things pipes flows =
    if nat_lt MAX_RAW_BYTES bytes then Err TooLong
    else (if nat_lt MAX_RAW_HANDLES (length things) then Err TooManyHandles
    else way_to pipes flows false things (peer_of (end_of pipes.ends x)))

-- the end that raw bytes go to, by whether the caller has all handles
abbrev pub raw_way : Thing → List ℕ → List Thing → Bool → Contents → Lines → Result EndId Why
raw_way x bytes things own pipes flows = if not own then Err NoName else raw_way_from x (length bytes) things pipes flows
