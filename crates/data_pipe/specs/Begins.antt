-- What a data pipe keeps of what was begun: the room that was told, and how many bytes were shown.
use Rattle.std.specs.Prelude.{ℕ, ◌+◌, ◌≤◌, List, length, take, Option, Some, None}
use Rattle.circular_buffer.specs.Buffer.{Buffer}
use Rattle.bind_model.specs.declared.limits.TheConstants.{MAX_DATA_BYTES}
use Rattle.bind_model.specs.Data.{Begun, Nothing, Space, View}
use Rattle.data_pipe.specs.Pipe.{Pipe}

-- a put that was begun with so much room
abbrev pub space_of : Option ℕ → Begun
space_of None = Nothing
space_of (Some n) = Space n

-- a get that was begun, and shows so many of the bytes held
abbrev pub view_of : List ℕ → Option ℕ → Begun
view_of held None = Nothing
view_of held (Some n) = View (take n held)

-- a ring as contracts see it
abbrev pub seen_as : Buffer ℕ → Option ℕ → Option ℕ → Pipe
seen_as ring space shown =
    record { capacity = ring.capacity; held = ring.items; producer = space_of space; consumer = view_of ring.items shown }

-- how many bytes were told; none where nothing was begun
abbrev pub count_in : Option ℕ → ℕ
count_in None = 0
count_in (Some n) = n

-- there is the room that was told, and what was shown is held
pub record Fits (ring : Buffer ℕ) (space shown : Option ℕ) : Type 0 where
  pub size : ring.capacity ≤ MAX_DATA_BYTES
  pub room : length ring.items + count_in space ≤ ring.capacity
  pub seen : count_in shown ≤ length ring.items
