-- Flushes have the numbers 1, 2, 3 and so on; and one is consumed where all that was written before it is.
use Rattle.std.specs.Prelude.{ℕ, ◌≡◌, ◌||◌, ◌==◌, Bool, true, false, List, [], ◌∷◌, length, Ok}
use Rattle.mj_base.specs.declared.ids.EndId.{EndId}
use Rattle.handle_table.specs.Things.{same_end}
use Rattle.wire_model.specs.HeaderMarks.{CONTROL_ID}
use Rattle.wire_model.specs.declared.target.Target.{Target}
use Rattle.wire_model.specs.Trees.{Tree}
use Rattle.bind_model.specs.declared.asked.Asked.{Asked}
use Rattle.bind_model.specs.declared.asked.Asked.TheVariants.{Notify, Take}
use Rattle.control_bytes.specs.declared.control.Control.{Control}
use Rattle.bind_model.specs.declared.told.Noted.TheVariants as noted
use Rattle.bind_model.specs.declared.told.Notified.TheVariants.{Flushing}
use Rattle.bind_model.specs.declared.asked.Notice.TheVariants.{Flush}
use Rattle.bind_model.specs.declared.told.Told.{Told}
use Rattle.bind_model.specs.declared.told.Told.TheVariants.{Wrote, Control as Heard, Notified as Informed}
use Rattle.bind_model.specs.declared.event.Event.{Event}
use Rattle.bind_model.specs.Laws.{up_from}
use Rattle.bind_model.specs.Machine.{peer, written, consumed}
use Rattle.bind_model.specs.Notices.{flushed}
use Rattle.bind_model.specs.Wire.{Wire, Header, Head}

-- the k-th flush of an end has number k
abbrev pub FlushesNumbered : List Event → Type 0
FlushesNumbered past = (x : EndId) → flushed past x ≡ up_from 1 (length (flushed past x))

-- one of the events of a past is so, by the events before it
pub data Earlier (holds : List Event → Told → Asked → Type 0) : List Event → Type 0 where
  latest : {event : Event} {past : List Event} → holds past event.told event.asked → Earlier holds (event ∷ past)
  before : {event : Event} {past : List Event} → Earlier holds past → Earlier holds (event ∷ past)

-- whether bytes were written raw for reading at an end
abbrev pub raw_by : List Event → Told → EndId → Bool
raw_by past (Wrote z) x = same_end (peer past z) x
raw_by past told x = false

-- whether any event wrote raw bytes for reading at an end
abbrev pub raw_to : List Event → EndId → Bool
raw_to [] x = false
raw_to (event ∷ past) x = raw_to past x || raw_by past event.told x

-- what the law needs of a wire: controls say what they are written for, and no call or answer is a control
pub record Speaks (wire : Wire) : Type 0 where
  pub says : (c : Control) → wire.says (wire.control c) ≡ Ok c
  pub plain : (t : Target) (v : Tree) (head : Head) (h : Header) → wire.header (wire.sealed t v head) ≡ Ok h → (h.id == CONTROL_ID) ≡ false

-- the flush of this number was written for reading at an end, behind so many messages
abbrev pub WroteFlush : Wire → EndId → ℕ → ℕ → List Event → Told → Asked → Type 0
WroteFlush wire a k n old (Informed (Flushing j)) (Notify y Flush) = (same_end (peer old y) a ≡ true) × (j ≡ k) × (length (written wire old a) ≡ n)
WroteFlush wire a k n old told asked = ⊥

-- a take that consumes a flush has consumed all that was written there before it
abbrev pub IsBehind : Wire → List Event → Told → Asked → Type 0
IsBehind wire past (Heard (noted.Flushed k)) (Take a) = raw_to past a ≡ false → Earlier (WroteFlush wire a k (consumed past a)) past
IsBehind wire past told asked = Unit {0}

-- each take that consumes a flush has consumed all that was written there before it
abbrev pub AllBehind : Wire → List Event → Type 0
AllBehind wire [] = Unit {0}
AllBehind wire (event ∷ past) = IsBehind wire past event.told event.asked × AllBehind wire past
