-- A data pipe by itself, as a history has it.
use Rattle.std.specs.Prelude.{List, Result, Ok, Err}
use Rattle.handle_table.specs.declared.thing.TokenId.{TokenId}
use Rattle.bind_model.specs.declared.event.Event.{Event}
use Rattle.bind_model.specs.declared.flow.Flow.{Flow}
use Rattle.bind_model.specs.declared.flow.Flow.TheVariants as flows
use Rattle.bind_model.specs.declared.flow.Flowed.{Flowed as flowed}
use Rattle.bind_model.specs.declared.told.Told.{Told}
use Rattle.bind_model.specs.declared.told.Told.TheVariants.{Flowed, No}
use Rattle.bind_model.specs.declared.told.Why.{Why}
use Rattle.bind_model.specs.declared.told.Why.TheVariants as whys
use Rattle.bind_model.specs.Data.{DataPipe, begun, data_held}
use Rattle.data_pipe.specs.declared.refused.DataWhy.{DataWhy}
use Rattle.data_pipe.specs.declared.refused.DataWhy.TheVariants.{BadSize, Busy, Idle, Disconnected, Full, Short, Empty, PeerClosed, TooLong}
use Rattle.data_pipe.specs.Pipe.{Pipe}

-- a refusal at the token of a side
abbrev pub why_at : TokenId → DataWhy → Why
why_at t (BadSize n) = whys.BadSize n
why_at t Busy = whys.Busy t
why_at t Idle = whys.Idle
why_at t Disconnected = whys.Disconnected
why_at t Full = whys.Full
why_at t (Short n) = whys.Short n
why_at t Empty = whys.Empty
why_at t PeerClosed = whys.PeerClosed
why_at t TooLong = whys.TooLong

-- what is told at the token of a side
abbrev pub told_at : TokenId → Result flowed DataWhy → Told
told_at t (Ok w) = Flowed t w
told_at t (Err why) = No (why_at t why)

-- at which token something is asked
abbrev pub side_of : Flow → DataPipe → TokenId
side_of (flows.Put bytes all) d = d.producer
side_of flows.BeginPut d = d.producer
side_of (flows.EndPut bytes) d = d.producer
side_of (flows.Get n all) d = d.consumer
side_of flows.BeginGet d = d.consumer
side_of (flows.EndGet n) d = d.consumer

-- which token is that of the other side
abbrev pub other_of : Flow → DataPipe → TokenId
other_of (flows.Put bytes all) d = d.consumer
other_of flows.BeginPut d = d.consumer
other_of (flows.EndPut bytes) d = d.consumer
other_of (flows.Get n all) d = d.producer
other_of flows.BeginGet d = d.producer
other_of (flows.EndGet n) d = d.producer

-- a data pipe as the events leave it
abbrev pub pipe_in : List Event → DataPipe → Pipe
pipe_in past d = record { capacity = d.capacity; held = data_held past d; producer = begun past d.producer; consumer = begun past d.consumer }
