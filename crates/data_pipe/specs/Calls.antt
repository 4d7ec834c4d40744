-- What was written to a data pipe by itself and what was read from it, over any calls.
use Rattle.std.specs.Prelude.{ℕ, ◌++◌, Bool, List, [], ◌∷◌, take, Result, Ok, Err}
use Rattle.bind_model.specs.declared.flow.Flow.{Flow}
use Rattle.bind_model.specs.declared.flow.Flow.TheVariants as flows
use Rattle.bind_model.specs.declared.flow.Flowed.{Flowed}
use Rattle.bind_model.specs.declared.flow.Flowed.TheVariants as flowed
use Rattle.bind_model.specs.Data.{viewed}
use Rattle.data_pipe.specs.declared.refused.DataWhy.{DataWhy}
use Rattle.data_pipe.specs.Pipe.{Pipe, empty_pipe}
use Rattle.data_pipe.specs.Moving.{told, after}

-- a call: what is asked, and whether the other side is gone
pub record Call : Type 0 where
  pub asked : Flow
  pub gone : Bool

-- a data pipe after a call; one that is refused changes nothing
abbrev pub moved : Flow → Result Flowed DataWhy → Pipe → Pipe
moved f (Ok w) pipe = after f w pipe
moved f (Err why) pipe = pipe

-- a data pipe of this capacity after these calls, the newest first
abbrev pub played : ℕ → List Call → Pipe
played capacity [] = empty_pipe capacity
played capacity (call ∷ calls) =
    moved call.asked (told (played capacity calls) call.gone call.asked) (played capacity calls)

-- the bytes that a call writes
abbrev pub puts : Flow → Result Flowed DataWhy → List ℕ
puts (flows.Put bytes all) (Ok (flowed.Put n)) = take n bytes
puts (flows.EndPut bytes) (Ok (flowed.Put n)) = take n bytes
puts f said = []

-- the bytes that a call reads: those that it is told; and the first of those that were shown, where so many were read
abbrev pub gets : Pipe → Flow → Result Flowed DataWhy → List ℕ
gets pipe (flows.Get n all) (Ok (flowed.Bytes bytes)) = bytes
gets pipe (flows.EndGet n) (Ok flowed.Ended) = take n (viewed pipe.consumer)
gets pipe f said = []

-- all that was written, in order
abbrev pub written : ℕ → List Call → List ℕ
written capacity [] = []
written capacity (call ∷ calls) = written capacity calls ++ puts call.asked (told (played capacity calls) call.gone call.asked)

-- all that was read, in order
abbrev pub read : ℕ → List Call → List ℕ
read capacity [] = []
read capacity (call ∷ calls) =
    read capacity calls ++ gets (played capacity calls) call.asked (told (played capacity calls) call.gone call.asked)
