-- What commands are told: bytes that are written or moved bring their end or token back, and nothing else does; an endpoint that is made brings a pending.
use Rattle.std.proofs.Common.{◌≡◌, ◌≤◌, ℕ, Bool, true, false, List, [], ◌∷◌, length, refl, sym, ap, ◌∙◌, subst, inl, inr, arith, true≢false}
use Rattle.std.specs.Prelude.{nat_le, nat_lt, take, not, ◌||◌, ◌==◌, if◌then◌else◌, Option, Some, None}
use Rattle.mj_base.specs.declared.ids.EndId.{EndId}
use Rattle.mj_base.specs.declared.ids.SeqId.{SeqId}
use Rattle.handle_table.specs.declared.thing.Thing.{Thing}
use Rattle.handle_table.specs.declared.thing.Thing.TheVariants.{End, Token}
use Rattle.handle_table.specs.declared.thing.TokenId.{TokenId}
use Rattle.handle_table.specs.Things.{has, same_token}
use Rattle.bind_model.specs.Data.{DataPipe, begun, data_free, data_held, pipe_of}
use Rattle.bind_model.specs.Machine.{gone, out}
use Rattle.bind_model.specs.Moves.{begun_already, least_of, moved, moved_at, moved_by, nothing_begun, nothing_held, space_in, view_in}
use Rattle.bind_model.specs.Plain.{asked_of, told_of, HandsBack}
use Rattle.bind_model.specs.Replies.{all_out, answer, cannot_write, unless, wrote_at}
use Rattle.bind_model.specs.Tests.{first_of, is_none}
use Rattle.bind_model.specs.Wire.{Wire}
use Rattle.bind_model.specs.declared.asked.Asked.{Asked}
use Rattle.bind_model.specs.declared.asked.Asked.TheVariants as asks
use Rattle.bind_model.specs.declared.commands.Command.{Command}
use Rattle.bind_model.specs.declared.commands.Command.TheVariants.{Associate, Raw, Flow}
use Rattle.bind_model.specs.declared.commands.Reply.{Reply}
use Rattle.bind_model.specs.declared.commands.Reply.TheVariants as replies
use Rattle.bind_model.specs.declared.endpoint.PendingId.{PendingId}
use Rattle.bind_model.specs.declared.event.Event.{Event}
use Rattle.bind_model.specs.declared.flow.Flow.{Flow as FlowType}
use Rattle.bind_model.specs.declared.flow.Flow.TheVariants as to_flow
use Rattle.bind_model.specs.declared.flow.Flowed.{Flowed as FlowedType}
use Rattle.bind_model.specs.declared.flow.Flowed.TheVariants as flowed
use Rattle.bind_model.specs.declared.limits.TheConstants.{MAX_RAW_BYTES, MAX_RAW_HANDLES}
use Rattle.bind_model.specs.declared.told.Told.{Told}
use Rattle.bind_model.specs.declared.told.Told.TheVariants as tells
use Rattle.bind_model.specs.declared.told.Why.{Why}
use Rattle.bind_model.specs.declared.told.Why.TheVariants.{NoName, TooLong, TooManyHandles, Disconnected, Full, NotData, Short}
use Rattle.bind_model.proofs.Outcomes.{Outcome, Refused, associates, first_cases, flows, outcome, writes}
use Rattle.script_names.specs.declared.rooms.Rooms.{Rooms}
use Rattle.script_names.specs.Carried.{halves_room, halves_with, things_with}
use Rattle.script_names.specs.Rooms.{HasRoom, HasRoomBehind, HasRoomFor}

-- whether a command writes bytes
abbrev pub is_raw : Command → Bool
is_raw (Raw handle bytes handles) = true
is_raw command = false

-- whether a command moves bytes at a token
abbrev pub is_flow : Command → Bool
is_flow (Flow handle flow) = true
is_flow command = false

-- whether the end or the token that a command has by itself comes back where it is done
abbrev pub comes_back : Command → Bool
comes_back (Raw handle bytes handles) = true
comes_back (Flow handle flow) = true
comes_back command = false

-- whether what is told is neither a refusal nor that bytes were written or moved
abbrev pub is_plain : Told → Bool
is_plain (tells.No why) = false
is_plain (tells.Wrote x) = false
is_plain (tells.Flowed t w) = false
is_plain told = true

-- a command that writes bytes
abbrev IsRaw : Asked → Type 0
IsRaw (asks.Raw x bytes handles) = Unit {0}
IsRaw asked = ⊥

-- a command that moves bytes
abbrev IsFlow : Asked → Type 0
IsFlow (asks.Flow x f) = Unit {0}
IsFlow asked = ⊥

-- a command that makes an associated endpoint
abbrev IsMaking : Asked → Type 0
IsMaking (asks.Associate y side interface) = Unit {0}
IsMaking asked = ⊥

-- what asks for what is told
abbrev Comes : Told → Asked → Type 0
Comes (tells.Wrote x) asked = IsRaw asked
Comes (tells.Flowed t w) asked = IsFlow asked
Comes (tells.Associated p) asked = IsMaking asked
Comes told asked = Unit {0}

raw_command : (command : Command) → IsRaw (asked_of command) → is_raw command ≡ true
raw_command (Raw handle bytes handles) h = refl
raw_command command h = absurd h

flow_command : (command : Command) → IsFlow (asked_of command) → is_flow command ≡ true
flow_command (Flow handle flow) h = refl
flow_command command h = absurd h

flow_room : (command : Command) → is_flow command ≡ true → 1 ≤ length (things_with command)
flow_room (Flow handle flow) h = omega arith
flow_room command h = absurd (true≢false (sym h))

raw_room : (command : Command) → is_raw command ≡ true → 1 ≤ length (things_with command)
raw_room (Raw handle bytes handles) h = omega arith
raw_room command h = absurd (true≢false (sym h))

making_room : (command : Command) → IsMaking (asked_of command) → 1 ≤ halves_room command
making_room (Associate end side interface) h = omega arith
making_room command h = absurd h

halves_fit : (command : Command) → length (halves_with command) ≤ halves_room command
halves_fit (Associate end side interface) = omega arith
halves_fit command = omega arith

less_room : (a b c d : ℕ) (rooms : Rooms) → c ≤ a → d ≤ b → HasRoom a b rooms → HasRoom c d rooms
less_room a b c d rooms things halves room = record {
  handles = let most = room.handles in omega arith;
  pendings = let most = room.pendings in omega arith;
  responders = room.responders;
}

-- the first refusal is told, or what isn't refused
first_not : (tests : List (Option Why)) (done : Told) → is_plain done ≡ false → is_plain (first_of tests done) ≡ false
first_not [] done e = e
first_not (None ∷ tests) done e = first_not tests done e
first_not (Some why ∷ tests) done e = refl

module _ (past : List Event) where
  moved_not : (t : TokenId) (d : DataPipe) (f : FlowType) → is_plain (moved past t d f) ≡ false
  moved_not t d (to_flow.Put bytes all) = first_not (
      unless (same_token d.producer t) NotData
      ∷ begun_already t (begun past t)
      ∷ unless (not (has (gone past) (Token d.consumer))) Disconnected
      ∷ unless (is_none bytes || nat_lt 0 (data_free past d)) Full
      ∷ unless (not all || nat_le (length bytes) (data_free past d)) (Short (data_free past d))
      ∷ [])
      (tells.Flowed t (flowed.Put (least_of (length bytes) (data_free past d)))) refl
  moved_not t d (to_flow.Get n all) = first_not (
      unless (same_token d.consumer t) NotData
      ∷ begun_already t (begun past t)
      ∷ (if n == 0 then None else nothing_held past d)
      ∷ unless (not all || nat_le n (length (data_held past d))) (Short (length (data_held past d)))
      ∷ [])
      (tells.Flowed t (flowed.Bytes (take n (data_held past d)))) refl
  moved_not t d to_flow.BeginPut = first_not (
      unless (same_token d.producer t) NotData
      ∷ begun_already t (begun past t)
      ∷ unless (not (has (gone past) (Token d.consumer))) Disconnected
      ∷ unless (nat_lt 0 (data_free past d)) Full
      ∷ [])
      (tells.Flowed t (flowed.Space (data_free past d))) refl
  moved_not t d (to_flow.EndPut bytes) = first_not (
      unless (same_token d.producer t) NotData
      ∷ nothing_begun (begun past t)
      ∷ unless (not (has (gone past) (Token d.consumer))) Disconnected
      ∷ unless (nat_le (length bytes) (space_in (begun past t))) TooLong
      ∷ [])
      (tells.Flowed t (flowed.Put (length bytes))) refl
  moved_not t d to_flow.BeginGet = first_not (
      unless (same_token d.consumer t) NotData
      ∷ begun_already t (begun past t)
      ∷ nothing_held past d
      ∷ [])
      (tells.Flowed t (flowed.View (data_held past d))) refl
  moved_not t d (to_flow.EndGet n) = first_not (
      unless (same_token d.consumer t) NotData
      ∷ nothing_begun (begun past t)
      ∷ unless (nat_le n (view_in (begun past t))) TooLong
      ∷ [])
      (tells.Flowed t flowed.Ended) refl

  moved_at_not : (t : TokenId) (f : FlowType) (o : Option DataPipe) → is_plain (moved_at past t f o) ≡ false
  moved_at_not t f None = refl
  moved_at_not t f (Some d) = moved_not t d f

  moved_by_not : (x : Thing) (f : FlowType) → is_plain (moved_by past x f) ≡ false
  moved_by_not (End x) f = refl
  moved_by_not (Token t) f = moved_at_not t f (pipe_of past t)

module _ (wire : Wire) (seqs : ℕ) (past : List Event) (me : SeqId) where
  refused_not : (told : Told) → Refused told → is_plain told ≡ false
  refused_not told r = ap is_plain r.1

  wrote_not : (x : Thing) (bytes : List ℕ) (handles : List Thing) (told : Told) → told ≡ wrote_at wire past x bytes handles → is_plain told ≡ false
  wrote_not (Token t) bytes handles told h = ap is_plain h
  wrote_not (End x) bytes handles told h = elim (first_cases (
      unless (nat_le (length bytes) MAX_RAW_BYTES) TooLong
      ∷ unless (nat_le (length handles) MAX_RAW_HANDLES) TooManyHandles
      ∷ cannot_write wire past x false handles)
      (tells.Wrote x) told h) [
        | inl r ↦ refused_not told r
        | inr p ↦ ap is_plain p.1
      ]

  raw_not : (x : Thing) (bytes : List ℕ) (handles : List Thing) (told : Told) → told ≡ answer wire seqs past me (asks.Raw x bytes handles)
      → is_plain told ≡ false
  raw_not x bytes handles told h = elim (first_cases (unless (all_out past (x ∷ handles)) NoName ∷ []) (wrote_at wire past x bytes handles) told h) [
    | inl r ↦ refused_not told r
    | inr p ↦ wrote_not x bytes handles told p.1
  ]

  flow_not : (x : Thing) (f : FlowType) (told : Told) → told ≡ answer wire seqs past me (asks.Flow x f) → is_plain told ≡ false
  flow_not x f told h = elim (first_cases (unless (has (out past) x) NoName ∷ []) (moved_by past x f) told h) [
    | inl r ↦ refused_not told r
    | inr p ↦ ap is_plain p.1 ∙ moved_by_not past x f
  ]

  -- what is told something else neither writes bytes nor moves any
  pub not_back : (command : Command) (told : Told) → told ≡ answer wire seqs past me (asked_of command) → is_plain told ≡ true → comes_back command ≡ false
  not_back (Raw handle bytes handles) told h plain = absurd (true≢false (sym plain ∙ raw_not handle bytes handles told h))
  not_back (Flow handle flow) told h plain = absurd (true≢false (sym plain ∙ flow_not handle flow told h))
  not_back command told h plain = refl

  comes : {asked : Asked} {told : Told} → Outcome wire seqs past me asked told → Comes told asked
  comes (writes own at) = tt
  comes (flows d own here at) = tt
  comes (associates main here alive is) = tt
  comes other = tt

  -- bytes that were written are those of a command for it
  pub wrote_raw : (command : Command) (x : EndId) → tells.Wrote x ≡ answer wire seqs past me (asked_of command) → is_raw command ≡ true
  wrote_raw command x h = raw_command command (comes (outcome wire seqs past me (asked_of command) (tells.Wrote x) h))

  -- and bytes that were moved
  pub flowed_flow : (command : Command) (t : TokenId) (w : FlowedType) → tells.Flowed t w ≡ answer wire seqs past me (asked_of command)
      → is_flow command ≡ true
  flowed_flow command t w h = flow_command command (comes (outcome wire seqs past me (asked_of command) (tells.Flowed t w) h))

  made_room : (command : Command) (p : PendingId) → tells.Associated p ≡ answer wire seqs past me (asked_of command) → 1 ≤ halves_room command
  made_room command p h = making_room command (comes (outcome wire seqs past me (asked_of command) (tells.Associated p) h))

  -- there is room for what comes back with a reply where there was room for what may come back of its command
  pub room_behind : (command : Command) (reply : Reply) (rooms : Rooms) → told_of reply ≡ answer wire seqs past me (asked_of command)
      → HandsBack command reply → HasRoomFor command rooms → HasRoomBehind reply rooms
  room_behind command (replies.Wrote back) rooms told hands room =
      less_room (length (things_with command)) (halves_room command) 1 0 rooms (raw_room command (wrote_raw command _ told)) (omega arith) room
  room_behind command (replies.Flowed back w) rooms told hands room =
      less_room (length (things_with command)) (halves_room command) 1 0 rooms (flow_room command (flowed_flow command _ _ told)) (omega arith) room
  room_behind command (replies.Associated pending) rooms told hands room =
      less_room (length (things_with command)) (halves_room command) 0 1 rooms (omega arith) (made_room command pending.name told) room
  room_behind command (replies.No why back) rooms told hands room =
      subst (λ (c : Command). HasRoom (length (things_with c)) (length (halves_with c)) rooms) (sym hands)
      (less_room (length (things_with command)) (halves_room command) (length (things_with command)) (length (halves_with command)) rooms (omega arith)
      (halves_fit command) room)
  room_behind command reply rooms told hands room =
      less_room (length (things_with command)) (halves_room command) 0 0 rooms (omega arith) (omega arith) room
