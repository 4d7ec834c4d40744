-- How many messages come to be taken, and how many requests to be answered: each is read off the commands and the replies that brought them.
use Rattle.std.specs.Prelude.{ℕ, ◌≡◌, ◌≤◌, Result, ◌+◌, ◌%◌, ◌==◌, Bool, List, [], ◌∷◌, length, Ok, Err, if◌then◌else◌}
use Rattle.bind_model.specs.declared.asked.Asked.{Asked}
use Rattle.bind_model.specs.declared.asked.Asked.TheVariants.{Raw, Notify}
use Rattle.bind_model.specs.declared.asked.Notice.{Notice}
use Rattle.bind_model.specs.declared.asked.Notice.TheVariants.{Query, Require, Flush}
use Rattle.control_bytes.specs.declared.control.Control.{Control}
use Rattle.control_bytes.specs.declared.control.Control.TheVariants as controls
use Rattle.mj_base.specs.declared.fault.Fault.{Fault}
use Rattle.mj_base.specs.Bytes.{number32}
use Rattle.wire_model.specs.HeaderMarks.{CONTROL_ID}
use Rattle.bind_model.specs.declared.event.Event.{Event}
use Rattle.bind_model.specs.declared.told.Told.{Told}
use Rattle.bind_model.specs.declared.told.Told.TheVariants.{Sent, Wrote, Closed, Notified as Informed}
use Rattle.bind_model.specs.Ready.{is_settled}
use Rattle.bind_model.specs.Replies.{responders_handed}
use Rattle.bind_model.specs.Wire.{Header, Wire}

-- the sum over events
abbrev pub counted : (Told → Asked → ℕ) → List Event → ℕ
counted count [] = 0
counted count (event ∷ past) = count event.told event.asked + counted count past

-- ## Takes

-- how many endpoint ids bytes carry, by their header
abbrev pub carries : Wire → List ℕ → ℕ
carries wire bytes = length {A = ℕ} (elim (wire.header bytes) [ Ok h ↦ h.ids | Err fault ↦ [] ])

-- 1 for a control that asks for a version, which its take writes back
abbrev pub query_of : Control → ℕ
query_of (controls.Query id) = 1
query_of c = 0

-- the same for what bytes say, where they say a control
abbrev pub query_said : Result Control Fault → ℕ
query_said (Ok c) = query_of c
query_said (Err fault) = 0

-- the same, by the header of the bytes
abbrev pub query_headed : Wire → List ℕ → Result Header Fault → ℕ
query_headed wire bytes (Ok h) = if h.id == CONTROL_ID then query_said (wire.says bytes) else 0
query_headed wire bytes (Err fault) = 0

-- 1 for bytes that a take reads as such a control
abbrev pub query_in : Wire → List ℕ → ℕ
query_in wire bytes = query_headed wire bytes (wire.header bytes)

-- a wire knows the controls that it writes: they carry no ids, and no other is read as one that asks for a version
pub record ReadsControls (wire : Wire) : Type 0 where
  pub bare : (c : Control) → carries wire (wire.control c) ≡ 0
  pub asks : (c : Control) → query_in wire (wire.control c) ≤ query_of c

-- how many messages come of a notice: its control, and the version that it asks for
abbrev pub notice_brings : Notice → ℕ
notice_brings (Query id) = 2
notice_brings (Require id v) = 1
notice_brings Flush = 1

-- how many messages come of an event at most: the one that it writes, with a control for each id that this carries and a version where it
-- asks for one, or the control of what it closes
abbrev pub brings : Wire → Told → Asked → ℕ
brings wire (Sent request bytes) asked = 1 + carries wire bytes + query_in wire bytes
brings wire (Wrote z) (Raw y bytes handles) = 1 + carries wire bytes + query_in wire bytes
brings wire (Informed n) (Notify y notice) = notice_brings notice
brings wire (Closed gone) asked = 1
brings wire told asked = 0

-- and of all
abbrev pub brought : Wire → List Event → ℕ
brought wire past = counted (brings wire) past

-- 1 for a take that consumed a message or found it bad
abbrev pub settles : Told → Asked → ℕ
settles told asked = if is_settled told then 1 else 0

-- how many takes did
abbrev pub settled : List Event → ℕ
settled past = counted settles past

-- ## Requests with a response

-- whether bytes have the flags of one
abbrev pub is_asking : List ℕ → Bool
is_asking bytes = number32 bytes 16 % 4 == 1

-- 1 for bytes that do
abbrev pub asks : List ℕ → ℕ
asks bytes = if is_asking bytes then 1 else 0

-- 1 for an event that writes such bytes
abbrev pub asks_by : Told → Asked → ℕ
asks_by (Sent request bytes) asked = asks bytes
asks_by (Wrote z) (Raw y bytes handles) = asks bytes
asks_by told asked = 0

-- how many events did
abbrev pub requested : List Event → ℕ
requested past = counted asks_by past

-- how many responders an event hands out
abbrev pub hands : Wire → Told → Asked → ℕ
hands wire told asked = length (responders_handed wire told asked)

-- and all
abbrev pub handed : Wire → List Event → ℕ
handed wire past = counted (hands wire) past
