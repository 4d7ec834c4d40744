-- Numbers of their widths in what sequences are told, and in messages.
use Rattle.std.specs.Prelude.{ℕ, ◌≡◌, ◌<◌, ◌≤◌, ◌^◌, List, length, Ok, Err}
use Rattle.mj_base.specs.declared.fault.Fault.{Fault}
use Rattle.message_pipe.specs.declared.message.Message.{Message}
use Rattle.wire_encoder.specs.declared.endpoint.EndpointSide.{EndpointSide}
use Rattle.wire_model.specs.Trees.{Tree}
use Rattle.wire_model.specs.declared.target.Target.{Target}
use Rattle.bind_model.specs.Wire.{Wire, Header, Content, Head}
use Rattle.bind_model.specs.declared.asked.Asked.{Asked}
use Rattle.bind_model.specs.declared.asked.Asked.TheVariants as asks
use Rattle.control_bytes.specs.declared.control.Control.{Control}
use Rattle.control_bytes.specs.declared.control.Control.TheVariants as says
use Rattle.bind_model.specs.declared.event.Event.{Event}
use Rattle.bind_model.specs.declared.told.Told.{Told}
use Rattle.bind_model.specs.declared.told.Told.TheVariants as tells
use Rattle.history_reader.specs.Printable.{IsSmall, IsWide, IsMoment, IsSequence, IsEnd, IsThing, IsToken, IsPending, AreAll, AreBytes, IsBadWhy, IsFlowed, IsNoted, IsNotified, IsWhy}
use Rattle.printed_histories.specs.Asked.{IsSmallAsked}

-- bytes of a message that isn't too long
abbrev pub IsFine : List ℕ → Type 0
IsFine bytes = AreBytes bytes × (length bytes < 2 ^ 62)

-- so it is with those of a message
abbrev pub IsFineMessage : Message → Type 0
IsFineMessage m = IsFine m.bytes

-- what they are told, but for the things that come and go
abbrev pub IsSmallTold : Told → Type 0
IsSmallTold (tells.Made things) = AreAll IsThing things × (length things ≤ 2)
IsSmallTold (tells.Bound x) = IsEnd x
IsSmallTold (tells.Associated p) = IsPending p
IsSmallTold (tells.Attached id) = IsSmall id
IsSmallTold (tells.Sent request bytes) = IsWide request × IsFine bytes
IsSmallTold (tells.Wrote x) = IsEnd x
IsSmallTold (tells.Taken g) = IsSmall g.id × IsSmall g.target.method × IsWide g.request × AreAll IsPending g.pendings × IsMoment g.moment
IsSmallTold (tells.Dropped id gone) = IsSmall id
IsSmallTold (tells.Control noted) = IsNoted noted
IsSmallTold (tells.Bad why gone) = IsBadWhy why
IsSmallTold (tells.Closed gone) = Unit {0}
IsSmallTold (tells.Notified notified) = IsNotified notified
IsSmallTold tells.Pausing = Unit {0}
IsSmallTold (tells.Flowed t flowed) = IsToken t × IsFlowed flowed
IsSmallTold tells.Skipped = Unit {0}
IsSmallTold (tells.No why) = IsWhy why

-- what was written raw isn't too long
abbrev pub IsShort : Asked → Told → Type 0
IsShort (asks.Raw x bytes handles) (tells.Wrote y) = length bytes < 2 ^ 62
IsShort asked told = Unit {0}

-- an event whose numbers are of their widths
abbrev pub IsSmallEvent : (Target → Tree → Type 0) → Event → Type 0
IsSmallEvent F event = IsSequence event.seq × IsSmallAsked F event.asked × IsSmallTold event.told × IsShort event.asked event.told

-- a control whose numbers have 32 bits
abbrev pub IsSmallControl : Control → Type 0
IsSmallControl (says.Closed id) = IsSmall id
IsSmallControl (says.Query id) = IsSmall id
IsSmallControl (says.Version id version) = IsSmall id × IsSmall version
IsSmallControl (says.Require id version) = IsSmall id × IsSmall version
IsSmallControl (says.Flush flush) = IsSmall flush

-- a wire whose messages are bytes, where this holds of parameters, and which reads numbers of their widths off bytes
pub record IsSmallWire (F : Target → Tree → Type 0) (wire : Wire) : Type 0 where
  pub wants : (target : Target) (parameters : Tree) → F target parameters → length (wire.wants target parameters) ≤ 64
  pub sealed : (target : Target) (parameters : Tree) (head : Head) → F target parameters → length head.ids ≤ 64
      → IsFine (wire.sealed target parameters head)
  pub control : (c : Control) → IsFine (wire.control c)
  pub header : (bytes : List ℕ) (h : Header) → IsFine bytes → wire.header bytes ≡ Ok h → IsSmall h.id × AreAll IsSmall h.ids
  pub says : (bytes : List ℕ) (c : Control) → IsFine bytes → wire.says bytes ≡ Ok c → IsSmallControl c
  pub stands : (side : EndpointSide) (interface : ℕ) (bytes : List ℕ) (n : ℕ) (c : Content) → IsFine bytes → wire.stands side interface bytes n ≡ Ok c
      → IsSmall c.target.method × IsWide c.request × IsMoment c.moment
  pub version : (interface : ℕ) → IsSmall (wire.version interface)
  -- its faults are at places of 64 bits
  pub header_fault : (bytes : List ℕ) (f : Fault) → IsFine bytes → wire.header bytes ≡ Err f → IsWide f.at
  pub says_fault : (bytes : List ℕ) (h : Header) (f : Fault) → IsFine bytes → wire.header bytes ≡ Ok h → wire.says bytes ≡ Err f → IsWide f.at
  pub stands_fault : (side : EndpointSide) (interface : ℕ) (bytes : List ℕ) (h : Header) (n : ℕ) (f : Fault) → IsFine bytes → wire.header bytes ≡ Ok h
      → wire.stands side interface bytes n ≡ Err f → IsWide f.at
