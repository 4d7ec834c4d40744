-- What the flag of a slot says, and slots of one part or two.
use Rattle.std.proofs.Common.{◌≡◌, ℕ, ◌+◌, ◌*◌, ◌/◌, ◌%◌, Bool, true, false, List, length, Option, Some, None, refl}
use Rattle.mj_schema.specs.declared.schema.Schema.{Schema}
use Rattle.wire_model.specs.Bytes.{bit_at}
use Rattle.wire_model.specs.Cells.{is_value}
use Rattle.wire_model.specs.Indexes.{handles_of, ids_of}
use Rattle.wire_model.specs.Kinded.{OrNull}
use Rattle.wire_model.specs.Marks.{has_value, marks_if, slot_marks, visit}
use Rattle.wire_model.specs.Slots.{Slot}
use Rattle.wire_model.specs.Trees as values
use Rattle.wire_model.specs.Trees.{Tree}
use Rattle.wire_model.specs.Values.{value, value_if, slot_value}
use Rattle.wire_laws.proofs.Cells.{flag_at, bool_bit}
use Rattle.wire_laws.proofs.CellReads.{ReadsSlot}
use Rattle.wire_laws.proofs.Placed.{FlagWithin, FlagClear, FlagShown}
use Rattle.wire_laws.proofs.Shown.{bit}
use Rattle.wire_laws.proofs.Walked.{Walked}

-- what a slot says of its value
abbrev pub flag_says : Option ℕ → Tree → Bool
flag_says None t = true
flag_says (Some flag) t = is_value t

read_bit : (bytes : List ℕ) (q b : ℕ) (v : Bool) → bit bytes q b ≡ bool_bit v → bit_at bytes q b ≡ v
read_bit bytes q b true e = rw e refl
read_bit bytes q b false e = rw e refl

pub said : (bytes : List ℕ) (base : ℕ) (body : List ℕ) (flag : Option ℕ) (t : Tree) → FlagWithin flag (8 * length body) → FlagClear body flag
    → FlagShown bytes base flag t body → has_value bytes base flag ≡ flag_says flag t
said bytes base body None t room clear shown = refl
said bytes base body (Some flag) t room clear shown =
    read_bit bytes (base + flag / 8) (flag % 8) (is_value t) (flag_at bytes base body flag false (is_value t) room clear shown)

-- what fits where there is a value
pub or_present : (flag : Option ℕ) (t : Tree) (P : Type 0) → flag_says flag t ≡ true → OrNull flag t P → P
or_present None t P e h = h
or_present (Some flag) (values.Flag b) P e h = h
or_present (Some flag) (values.Whole n) P e h = h
or_present (Some flag) (values.Text bs) P e h = h
or_present (Some flag) (values.Items ts) P e h = h
or_present (Some flag) (values.Pairs ts) P e h = h
or_present (Some flag) (values.Fields ts) P e h = h
or_present (Some flag) (values.Member tag t) P e h = h
or_present (Some flag) (values.Unknown tag) P e h = h
or_present (Some flag) (values.Handle i) P e h = h
or_present (Some flag) (values.Remote i v) P e h = h
or_present (Some flag) (values.Endpoint i) P e h = h
or_present (Some flag) (values.EndpointRemote i v) P e h = h
or_present (Some flag) values.Null P e h = absurd cc

-- where there is none it is null
pub or_absent : (flag : Option ℕ) (t : Tree) → flag_says flag t ≡ false → t ≡ values.Null
or_absent None t e = absurd cc
or_absent (Some flag) (values.Flag b) e = absurd cc
or_absent (Some flag) (values.Whole n) e = absurd cc
or_absent (Some flag) (values.Text bs) e = absurd cc
or_absent (Some flag) (values.Items ts) e = absurd cc
or_absent (Some flag) (values.Pairs ts) e = absurd cc
or_absent (Some flag) (values.Fields ts) e = absurd cc
or_absent (Some flag) (values.Member tag t) e = absurd cc
or_absent (Some flag) (values.Unknown tag) e = absurd cc
or_absent (Some flag) (values.Handle i) e = absurd cc
or_absent (Some flag) (values.Remote i v) e = absurd cc
or_absent (Some flag) (values.Endpoint i) e = absurd cc
or_absent (Some flag) (values.EndpointRemote i v) e = absurd cc
or_absent (Some flag) values.Null e = refl

module _ (schema : Schema) (bytes : List ℕ) where
  -- a slot with its flag reads back
  pub record ReadsParts (left base : ℕ) (s : Slot) (t : Tree) (p end : ℕ) : Type 0 where
    pub walk : Walked (marks_if (has_value bytes base s.flag) (slot_marks (visit left schema bytes) schema bytes (base + s.place / 8) s.kind)) p end
        (handles_of t) (ids_of t)
    pub means : value_if (has_value bytes base s.flag) (slot_value (value left schema bytes) schema bytes (base + s.place / 8) (s.place % 8) s.kind) ≡ t

  pub with_value : (left base : ℕ) (s : Slot) (t : Tree) (p end : ℕ) → has_value bytes base s.flag ≡ true
      → ReadsSlot schema bytes left (base + s.place / 8) (s.place % 8) s.kind t p end → ReadsParts left base s t p end
  with_value left base s t p end has r = record { walk = rw has r.walk; means = rw has r.means }
