-- What contracts see of a data pipe by itself.
use Rattle.std.specs.Prelude.{ℕ, ◌-◌, List, [], length}
use Rattle.bind_model.specs.Data.{Begun, Nothing}

-- how many bytes it holds at most; those that went in and didn't come out yet, in order; and what was begun at either side
pub record Pipe : Type 0 where
  pub capacity : ℕ
  pub held : List ℕ
  pub producer : Begun
  pub consumer : Begun

-- a new one
abbrev pub empty_pipe : ℕ → Pipe
empty_pipe capacity = record { capacity = capacity; held = []; producer = Nothing; consumer = Nothing }

-- for how many more bytes there is room
abbrev pub room : Pipe → ℕ
room pipe = pipe.capacity - length pipe.held
