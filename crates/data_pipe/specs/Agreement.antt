-- The table of data pipes says what the events say.
use Rattle.std.specs.Prelude.{◌≡◌, List, Option, Some, None, if◌then◌else◌}
use Rattle.std.specs.Option.{option_map}
use Rattle.handle_table.specs.Things.{same_token}
use Rattle.handle_table.specs.declared.thing.TokenId.{TokenId}
use Rattle.bind_model.specs.declared.event.Event.{Event}
use Rattle.bind_model.specs.Data.{DataPipe, pipe_of}
use Rattle.data_pipe.specs.History.{pipe_in}
use Rattle.data_pipe.specs.Table.{Lines, behind, line_of}

-- a data pipe, where this token is its producer
abbrev pub if_producer : TokenId → Option DataPipe → Option DataPipe
if_producer t None = None
if_producer t (Some d) = if same_token d.producer t then Some d else None

-- the data pipe whose producer a token is, by the events
abbrev pub produced : List Event → TokenId → Option DataPipe
produced past t = if_producer t (pipe_of past t)

-- each data pipe has a line, as the events leave it, and nothing else has one; its consumer's token is behind that of its producer
pub record DataAgrees (past : List Event) (all : Lines) : Type 0 where
  pub lines : (t : TokenId) → line_of all t ≡ option_map (pipe_in past) (produced past t)
  pub next : (t : TokenId) (d : DataPipe) → pipe_of past t ≡ Some d → d.consumer ≡ behind d.producer
