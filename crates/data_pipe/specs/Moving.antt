-- What is told at a data pipe by itself, and what it is after that.
use Rattle.std.specs.Prelude.{ℕ, ◌≡◌, ◌==◌, ◌||◌, ◌++◌, Bool, true, false, nat_le, nat_lt, not, if◌then◌else◌, List, [], ◌∷◌, length, take, drop, Option, Some, None, Result, Ok, Err, IsOk, IsTrue}
use Rattle.bind_model.specs.declared.flow.Flow.{Flow}
use Rattle.bind_model.specs.declared.flow.Flow.TheVariants as flows
use Rattle.bind_model.specs.declared.flow.Flowed.{Flowed}
use Rattle.bind_model.specs.declared.flow.Flowed.TheVariants as flowed
use Rattle.bind_model.specs.Data.{Begun, Nothing, Space, View, is_busy}
use Rattle.bind_model.specs.Moves.{is_right_size, space_in, view_in, least_of}
use Rattle.bind_model.specs.Tests.{is_none}
use Rattle.data_pipe.specs.declared.refused.DataWhy.{DataWhy}
use Rattle.data_pipe.specs.declared.refused.DataWhy.TheVariants.{BadSize, Busy, Idle, Disconnected, Full, Short, Empty, PeerClosed, TooLong}
use Rattle.data_pipe.specs.declared.refused.DataRefused.{DataRefused}
use Rattle.data_pipe.specs.declared.refused.DataRefused.TheVariants.{No, Memory}
use Rattle.data_pipe.specs.Pipe.{Pipe, empty_pipe, room}

-- a test: it holds, or this refuses
abbrev pub unless : Bool → DataWhy → Option DataWhy
unless holds why = if holds then None else Some why

module _ {T : Type 0} where
  -- the first test that fails refuses
  abbrev pub first_of : List (Option DataWhy) → T → Result T DataWhy
  first_of [] done = Ok done
  first_of (None ∷ tests) done = first_of tests done
  first_of (Some why ∷ tests) done = Err why

  -- what was told refuses for this; or memory may be wanting, only where nothing else refuses
  abbrev pub IsRefused : Result T DataWhy → DataRefused → Type 0
  IsRefused said (No why) = said ≡ Err why
  IsRefused said Memory = IsOk said

-- a data pipe of this size, where one may hold so many bytes
abbrev pub made : ℕ → Result Pipe DataWhy
made size = first_of (unless (is_right_size size) (BadSize size) ∷ []) (empty_pipe size)

-- nothing is held, and more may come, or none can where the producer is gone
abbrev pub nothing_held : Pipe → Bool → Option DataWhy
nothing_held pipe gone = if is_none pipe.held then (if gone then Some PeerClosed else Some Empty) else None

-- something was begun at a side already
abbrev pub begun_already : Begun → Option DataWhy
begun_already b = if is_busy b then Some Busy else None

-- nothing was begun at a side
abbrev pub nothing_begun : Begun → Option DataWhy
nothing_begun b = if is_busy b then None else Some Idle

module _ (pipe : Pipe) (gone : Bool) where
  -- the reply to what is asked at a side of a data pipe, where the other side is gone or isn't
  abbrev pub told : Flow → Result Flowed DataWhy
  told (flows.Put bytes all) = first_of (
      begun_already pipe.producer
      ∷ unless (not gone) Disconnected
      ∷ unless (is_none bytes || nat_lt 0 (room pipe)) Full
      ∷ unless (not all || nat_le (length bytes) (room pipe)) (Short (room pipe))
      ∷ [])
      (flowed.Put (least_of (length bytes) (room pipe)))
  told (flows.Get n all) = first_of (
      begun_already pipe.consumer
      ∷ (if n == 0 then None else nothing_held pipe gone)
      ∷ unless (not all || nat_le n (length pipe.held)) (Short (length pipe.held))
      ∷ [])
      (flowed.Bytes (take n pipe.held))
  told flows.BeginPut = first_of (
      begun_already pipe.producer
      ∷ unless (not gone) Disconnected
      ∷ unless (nat_lt 0 (room pipe)) Full
      ∷ [])
      (flowed.Space (room pipe))
  told (flows.EndPut bytes) = first_of (
      nothing_begun pipe.producer
      ∷ unless (not gone) Disconnected
      ∷ unless (nat_le (length bytes) (space_in pipe.producer)) TooLong
      ∷ [])
      (flowed.Put (length bytes))
  told flows.BeginGet = first_of (begun_already pipe.consumer ∷ nothing_held pipe gone ∷ []) (flowed.View pipe.held)
  told (flows.EndGet n) = first_of (nothing_begun pipe.consumer ∷ unless (nat_le n (view_in pipe.consumer)) TooLong ∷ []) flowed.Ended

-- a data pipe after this was told: a put adds its bytes at the end, a get takes the first away, and a begun put or get ends as it is said
abbrev pub after : Flow → Flowed → Pipe → Pipe
after (flows.Put bytes all) (flowed.Put n) pipe = record pipe { held = pipe.held ++ take n bytes }
after (flows.Get n all) (flowed.Bytes bytes) pipe = record pipe { held = drop n pipe.held }
after flows.BeginPut (flowed.Space n) pipe = record pipe { producer = Space n }
after (flows.EndPut bytes) (flowed.Put n) pipe = record pipe { held = pipe.held ++ take n bytes; producer = Nothing }
after flows.BeginGet (flowed.View bytes) pipe = record pipe { consumer = View bytes }
after (flows.EndGet n) flowed.Ended pipe = record pipe { held = drop n pipe.held; consumer = Nothing }
after f w pipe = pipe

-- whether bytes come out of what is asked
abbrev pub gets_bytes : Flow → Bool
gets_bytes (flows.Get n all) = true
gets_bytes flows.BeginGet = true
gets_bytes f = false

-- memory may be wanting only where bytes come out
abbrev pub WantsToGet : Flow → DataRefused → Type 0
WantsToGet f refused = refused ≡ Memory → IsTrue (gets_bytes f)
