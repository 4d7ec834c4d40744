-- What lies within the bytes of a message.
use Rattle.std.proofs.Common.{◌≡◌, ℕ, ◌+◌, ◌*◌, ◌/◌, ◌<◌, ◌≤◌, List, length, get_or, sym, subst, arith}
use Rattle.std.specs.Prelude.{All}
use Rattle.std.proofs.lemmas.List.Elements.{All-weaker, All-get_or}
use Rattle.mj_schema.specs.KindTrees as kinds
use Rattle.mj_schema.specs.KindTrees.{KindTree}
use Rattle.mj_schema.specs.Sizes.{size_of}
use Rattle.mj_schema.specs.Versions.{bytes_of, flag_end}
use Rattle.mj_schema.specs.declared.kind.Width.TheVariants.{Bits8, Bits16, Bits32, Bits64}
use Rattle.mj_schema.specs.declared.rows.FieldRow.{FieldRow}
use Rattle.wire_model.specs.Readable.{EndsWithin}
use Rattle.wire_model.specs.Slots.{element_bytes}
use Rattle.readable_marks.specs.steps.Rooms.{EndsIn}

-- fields within an object lie within the bytes
pub within_bytes : (fields : List FieldRow) (row_bytes p size n : ℕ) → All (EndsWithin row_bytes) fields → row_bytes ≤ size → p + size ≤ n
    → All (EndsIn (p + 8) n) fields
within_bytes fields row_bytes p size n h a b =
    All-weaker (EndsWithin row_bytes) (EndsIn (p + 8) n)
    (λ f le.
    let room : 8 + f.offset + bytes_of f.kind ≤ row_bytes = le.room in
    let flag_room : 8 + flag_end f.flag ≤ row_bytes = le.flag_room in
    record { bit = le.bit; flag_bit = le.flag_bit; room = omega arith; flag_room = omega arith }) fields h

-- one of the fields
pub field_in : (base n : ℕ) (fields : List FieldRow) (i : ℕ) (f : FieldRow) → i < length fields → f ≡ get_or fields i f
    → All (EndsIn base n) fields → EndsIn base n f
field_in base n fields i f lt is h = subst (EndsIn base n) (sym is) (All-get_or (EndsIn base n) fields i f lt h)

-- elements of so many bits: a place that so many elements end behind, with the bytes of one of them
flags : (place i n : ℕ) → i < n → place ≡ i * 1 → place / 8 + (1 + 7) / 8 ≤ (n * 1 + 7) / 8
flags place i n lt is = omega arith

of_8 : (place i n : ℕ) → i < n → place ≡ i * 8 → place / 8 + (8 + 7) / 8 ≤ (n * 8 + 7) / 8
of_8 place i n lt is = omega arith

of_16 : (place i n : ℕ) → i < n → place ≡ i * 16 → place / 8 + (16 + 7) / 8 ≤ (n * 16 + 7) / 8
of_16 place i n lt is = omega arith

of_32 : (place i n : ℕ) → i < n → place ≡ i * 32 → place / 8 + (32 + 7) / 8 ≤ (n * 32 + 7) / 8
of_32 place i n lt is = omega arith

of_64 : (place i n : ℕ) → i < n → place ≡ i * 64 → place / 8 + (64 + 7) / 8 ≤ (n * 64 + 7) / 8
of_64 place i n lt is = omega arith

of_128 : (place i n : ℕ) → i < n → place ≡ i * 128 → place / 8 + (128 + 7) / 8 ≤ (n * 128 + 7) / 8
of_128 place i n lt is = omega arith

pub element_room : (k : KindTree) (place i n : ℕ) → i < n → place ≡ i * size_of k → place / 8 + bytes_of k ≤ element_bytes k n
element_room (kinds.BoolKind nullable) place i n lt is = flags place i n lt is
element_room (kinds.IntKind Bits8 signed nullable) place i n lt is = of_8 place i n lt is
element_room (kinds.IntKind Bits16 signed nullable) place i n lt is = of_16 place i n lt is
element_room (kinds.IntKind Bits32 signed nullable) place i n lt is = of_32 place i n lt is
element_room (kinds.IntKind Bits64 signed nullable) place i n lt is = of_64 place i n lt is
element_room (kinds.EnumKind number nullable) place i n lt is = of_32 place i n lt is
element_room (kinds.TextKind nullable) place i n lt is = of_64 place i n lt is
element_room (kinds.HandleKind sort nullable) place i n lt is = of_32 place i n lt is
element_room (kinds.ArrayKind of count nullable) place i n lt is = of_64 place i n lt is
element_room (kinds.MapKind key value nullable) place i n lt is = of_64 place i n lt is
element_room (kinds.StructKind number nullable) place i n lt is = of_64 place i n lt is
element_room (kinds.UnionKind number nullable) place i n lt is = of_128 place i n lt is
element_room (kinds.RemoteKind interface nullable) place i n lt is = of_64 place i n lt is
element_room (kinds.ReceiverKind interface nullable) place i n lt is = of_32 place i n lt is
element_room (kinds.AssociatedRemoteKind interface nullable) place i n lt is = of_64 place i n lt is
element_room (kinds.AssociatedReceiverKind interface nullable) place i n lt is = of_32 place i n lt is
