-- What is asked of a data pipe, and what is told of it.
use Rattle.std.specs.Prelude.{ℕ, ◌≡◌, List}
use Rattle.mj_base.specs.declared.ids.SeqId.{SeqId}
use Rattle.handle_table.specs.declared.thing.TokenId.{TokenId}
use Rattle.bind_model.specs.declared.commands.Command.{Command}
use Rattle.bind_model.specs.declared.commands.Command.TheVariants as commands
use Rattle.bind_model.specs.declared.flow.Flowed.{Flowed}
use Rattle.bind_model.specs.declared.flow.Flowed.TheVariants.{Put, Bytes, Space, View, Ended}
use Rattle.bind_model.specs.declared.told.Told.TheVariants as tells
use Rattle.data_pipe.specs.History.{why_at}
use Rattle.data_pipe.specs.declared.refused.DataRefused.{DataRefused}
use Rattle.data_pipe.specs.declared.refused.DataRefused.TheVariants.{No, Memory}
use Rattle.core_state.specs.Doing.{told_in}
use Rattle.core_state.specs.declared.state.State.{State}
use Rattle.core_data.specs.declared.moving.Moved.{Moved}

-- the command that it came with
abbrev pub command_of : Moved → Command
command_of m = commands.Flow m.handle m.flow

-- the same, with other bytes
abbrev pub with_bytes : List ℕ → Flowed → Flowed
with_bytes bytes (Put n) = Put n
with_bytes bytes (Bytes old) = Bytes bytes
with_bytes bytes (Space n) = Space n
with_bytes bytes (View old) = View bytes
with_bytes bytes Ended = Ended

-- where a data pipe refuses for a reason, the history tells that
abbrev pub SaysWhy : State → SeqId → Moved → TokenId → DataRefused → Type 0
SaysWhy s seq m token (No why) = told_in s seq (command_of m) ≡ tells.No (why_at token why)
SaysWhy s seq m token Memory = Unit {0}
