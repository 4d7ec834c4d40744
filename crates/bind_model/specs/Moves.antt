-- The replies to what is asked of a data pipe.
use Rattle.std.specs.Prelude.{ℕ, take, Bool, ◌==◌, ◌&&◌, ◌||◌, nat_le, nat_lt, List, [], ◌∷◌, not, length, if◌then◌else◌, Option, Some, None}
use Rattle.handle_table.specs.declared.thing.Thing.{Thing}
use Rattle.handle_table.specs.declared.thing.TokenId.{TokenId}
use Rattle.handle_table.specs.declared.thing.Thing.TheVariants.{End, Token}
use Rattle.bind_model.specs.declared.limits.TheConstants.{MAX_DATA_BYTES}
use Rattle.bind_model.specs.declared.flow.Flow.{Flow}
use Rattle.bind_model.specs.declared.flow.Flow.TheVariants as flows
use Rattle.bind_model.specs.declared.flow.Flowed.TheVariants as flowed
use Rattle.bind_model.specs.declared.told.Why.{Why}
use Rattle.bind_model.specs.declared.told.Why.TheVariants.{Disconnected, TooLong, Full, Empty, PeerClosed, NotData, Busy, Idle, Short}
use Rattle.bind_model.specs.declared.told.Told.{Told}
use Rattle.bind_model.specs.declared.told.Told.TheVariants.{Flowed, No}
use Rattle.bind_model.specs.declared.event.Event.{Event}
use Rattle.handle_table.specs.Things.{same_token, has}
use Rattle.bind_model.specs.Machine.{gone}
use Rattle.bind_model.specs.Data.{DataPipe, pipe_of, Begun, Space, View, begun, is_busy, data_held, data_free}
use Rattle.bind_model.specs.Tests.{first_of, unless, is_none}

-- whether a data pipe may hold so many bytes
abbrev pub is_right_size : ℕ → Bool
is_right_size size = nat_lt 0 size && nat_le size MAX_DATA_BYTES

-- something was begun, and nothing else goes on at this token till it is ended
abbrev pub begun_already : TokenId → Begun → Option Why
begun_already t b = if is_busy b then Some (Busy t) else None

-- nothing was begun, and so nothing can be ended
abbrev pub nothing_begun : Begun → Option Why
nothing_begun b = if is_busy b then None else Some Idle

-- for how many bytes the space was told
abbrev pub space_in : Begun → ℕ
space_in (Space n) = n
space_in b = 0

-- how many bytes may be read where they lie
abbrev pub view_in : Begun → ℕ
view_in (View bytes) = length bytes
view_in b = 0

-- nothing is held, and more may come, or none can
abbrev pub nothing_held : List Event → DataPipe → Option Why
nothing_held past d =
    if is_none (data_held past d) then (if has (gone past) (Token d.producer) then Some PeerClosed else Some Empty) else None

-- the lesser of two numbers
abbrev pub least_of : ℕ → ℕ → ℕ
least_of a b = if nat_le a b then a else b

module _ (past : List Event) (t : TokenId) (d : DataPipe) where
  -- the reply to what is asked at a token of a data pipe
  abbrev pub moved : Flow → Told
  moved (flows.Put bytes all) = first_of (
      unless (same_token d.producer t) NotData
      ∷ begun_already t (begun past t)
      ∷ unless (not (has (gone past) (Token d.consumer))) Disconnected
      ∷ unless (is_none bytes || nat_lt 0 (data_free past d)) Full
      ∷ unless (not all || nat_le (length bytes) (data_free past d)) (Short (data_free past d))
      ∷ [])
      (Flowed t (flowed.Put (least_of (length bytes) (data_free past d))))
  moved (flows.Get n all) = first_of (
      unless (same_token d.consumer t) NotData
      ∷ begun_already t (begun past t)
      ∷ (if n == 0 then None else nothing_held past d)
      ∷ unless (not all || nat_le n (length (data_held past d))) (Short (length (data_held past d)))
      ∷ [])
      (Flowed t (flowed.Bytes (take n (data_held past d))))
  moved flows.BeginPut = first_of (
      unless (same_token d.producer t) NotData
      ∷ begun_already t (begun past t)
      ∷ unless (not (has (gone past) (Token d.consumer))) Disconnected
      ∷ unless (nat_lt 0 (data_free past d)) Full
      ∷ [])
      (Flowed t (flowed.Space (data_free past d)))
  moved (flows.EndPut bytes) = first_of (
      unless (same_token d.producer t) NotData
      ∷ nothing_begun (begun past t)
      ∷ unless (not (has (gone past) (Token d.consumer))) Disconnected
      ∷ unless (nat_le (length bytes) (space_in (begun past t))) TooLong
      ∷ [])
      (Flowed t (flowed.Put (length bytes)))
  moved flows.BeginGet = first_of (
      unless (same_token d.consumer t) NotData
      ∷ begun_already t (begun past t)
      ∷ nothing_held past d
      ∷ [])
      (Flowed t (flowed.View (data_held past d)))
  moved (flows.EndGet n) = first_of (
      unless (same_token d.consumer t) NotData
      ∷ nothing_begun (begun past t)
      ∷ unless (nat_le n (view_in (begun past t))) TooLong
      ∷ [])
      (Flowed t flowed.Ended)

-- the reply at a token, which has to be of a data pipe
abbrev pub moved_at : List Event → TokenId → Flow → Option DataPipe → Told
moved_at past t f None = No NotData
moved_at past t f (Some d) = moved past t d f

-- the reply at a handle, which has to be a token of a data pipe
abbrev pub moved_by : List Event → Thing → Flow → Told
moved_by past (End x) f = No NotData
moved_by past (Token t) f = moved_at past t f (pipe_of past t)
