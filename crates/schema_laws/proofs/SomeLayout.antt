-- Of each struct that can be laid out there is a layout.
use Rattle.std.proofs.Common.{◌≡◌, ℕ, ◌+◌, ◌*◌, ◌/◌, ◌%◌, ◌<◌, ◌≤◌, List, [], ◌∷◌, ◌++◌, map, refl, sym, ◌∙◌, subst, arith}
use Rattle.std.specs.Prelude.{Bool, true, false, ◌==◌, ◌&&◌, ◌||◌, nat_le, Option, Some, None}
use Rattle.std.proofs.Math.Nat.{mul-mod_left, le-mul_of_pos_right}
use Rattle.std.proofs.lemmas.Bool.{and_from, and_parts, eq-eqb, eqb-true, le-leb}
use Rattle.std.proofs.lemmas.List.{length-map}
use Rattle.std.proofs.lemmas.Nat.{div-add-mod', mod_below}
use Rattle.mj_schema.specs.declared.kind.Width.{Width}
use Rattle.mj_schema.specs.declared.kind.Width.TheVariants.{Bits8, Bits16, Bits32, Bits64}
use Rattle.mj_schema.specs.declared.rows.DraftField.{DraftField}
use Rattle.mj_schema.specs.declared.rows.DraftStruct.{DraftStruct}
use Rattle.mj_schema.specs.declared.rows.Flag.{Flag}
use Rattle.mj_schema.specs.declared.rows.Place.{Place}
use Rattle.mj_schema.specs.declared.rows.StructRow.{StructRow}
use Rattle.mj_schema.specs.KindTrees.{KindTree}
use Rattle.mj_schema.specs.KindTrees as kinds
use Rattle.mj_schema.specs.Layout.{Slot, is_apart, is_free, slot_at, IsLeastPlace, flag_slots, IsFlagPlaced, IsPlaced, part_slots, ArePacked, IsLaidOut}
use Rattle.mj_schema.specs.Layout.{field_rows, draft_of}
use Rattle.mj_schema.specs.Parts.{has_flag, FLAG_KIND, bit_address}
use Rattle.mj_schema.specs.Sizes.{bits_of, alignment_of}
use Rattle.mj_schema.specs.Versions.{version_rows}
use Rattle.version_tables.proofs.LaidOut.{packed_length, laid_out}
use Rattle.schema_laws.specs.Whole.{CanBeLaidOut}
use Rattle.schema_laws.proofs.Least.{IsLeast, some_least}

-- no alignment is zero
some_bits : (width : Width) → 0 < bits_of width
some_bits Bits8 = omega arith
some_bits Bits16 = omega arith
some_bits Bits32 = omega arith
some_bits Bits64 = omega arith

some_alignment : (kind : KindTree) → 0 < alignment_of kind
some_alignment (kinds.BoolKind nullable) = omega arith
some_alignment (kinds.IntKind width signed nullable) = some_bits width
some_alignment (kinds.EnumKind number nullable) = omega arith
some_alignment (kinds.TextKind nullable) = omega arith
some_alignment (kinds.HandleKind sort nullable) = omega arith
some_alignment (kinds.ArrayKind of count nullable) = omega arith
some_alignment (kinds.MapKind key value nullable) = omega arith
some_alignment (kinds.StructKind number nullable) = omega arith
some_alignment (kinds.UnionKind number nullable) = omega arith
some_alignment (kinds.RemoteKind interface nullable) = omega arith
some_alignment (kinds.ReceiverKind interface nullable) = omega arith
some_alignment (kinds.AssociatedRemoteKind interface nullable) = omega arith
some_alignment (kinds.AssociatedReceiverKind interface nullable) = omega arith

-- a bit address that no taken slot goes beyond
abbrev past : List Slot → ℕ
past [] = 0
past (slot ∷ slots) = slot.start + slot.size + past slots

or_true : (a b : Bool) → b ≡ true → (a || b) ≡ true
or_true true b is = refl
or_true false b is = is

-- a slot that begins there or later is free
free_past : (taken : List Slot) (slot : Slot) → past taken ≤ slot.start → is_free taken slot ≡ true
free_past [] slot le = refl
free_past (other ∷ taken) slot le =
    and_from (is_apart slot other) (is_free taken slot)
    (or_true (nat_le (slot.start + slot.size) other.start) (nat_le (other.start + other.size) slot.start)
    (le-leb (other.start + other.size) slot.start (omega (arith, le))))
    (free_past taken slot (omega (arith, le)))

-- the kind's bits at this address are aligned and free
abbrev fits : List Slot → KindTree → ℕ → Bool
fits taken kind address = (address % alignment_of kind == 0) && is_free taken (slot_at kind address)

-- a multiple of the alignment behind all that is taken fits
fits_past : (taken : List Slot) (kind : KindTree) → fits taken kind (past taken * alignment_of kind) ≡ true
fits_past taken kind =
    and_from _ _ (eq-eqb (past taken * alignment_of kind % alignment_of kind) 0 (mul-mod_left (past taken) (alignment_of kind)))
    (free_past taken (slot_at kind (past taken * alignment_of kind)) (le-mul_of_pos_right (past taken) (some_alignment kind)))

-- a byte and a bit of it are the address that they are taken from
address_is : (address : ℕ) → bit_address (address / 8) (address % 8) ≡ address
address_is address = let split = div-add-mod' address 8 in omega (arith, split)

-- at a least address there is a least place
least_at : (taken : List Slot) (kind : KindTree) (address : ℕ) → IsLeast (fits taken kind) address → IsLeastPlace taken kind (address / 8) (address % 8)
least_at taken kind address is =
    let same : address ≡ bit_address (address / 8) (address % 8) = sym (address_is address) in
    let parts = and_parts (address % alignment_of kind == 0) (is_free taken (slot_at kind address)) is.passes in
    record {
      bit_of_byte = mod_below address 8 (omega arith);
      aligned = subst (λ (a : ℕ). a % alignment_of kind ≡ 0) same (eqb-true (address % alignment_of kind) 0 parts.0);
      free = subst (λ (a : ℕ). is_free taken (slot_at kind a) ≡ true) same parts.1;
      least = λ other aligned free.
          subst (λ (a : ℕ). a ≤ other) same
          (is.least other (and_from _ _ (eq-eqb (other % alignment_of kind) 0 aligned) free));
    }

-- a least place of a part
record HasPart (taken : List Slot) (kind : KindTree) : Type 0 where
  offset : ℕ
  bit : ℕ
  is : IsLeastPlace taken kind offset bit

some_part : (taken : List Slot) (kind : KindTree) → HasPart taken kind
some_part taken kind =
    let found = some_least (fits taken kind) (past taken * alignment_of kind) (fits_past taken kind) in
    record { offset = found.0 / 8; bit = found.0 % 8; is = least_at taken kind found.0 found.1 }

-- a flag has a least place, where one is asked for
some_flag : (taken : List Slot) (asked : Bool) → (flag : Option Flag) × IsFlagPlaced taken asked flag
some_flag taken false = (None, tt)
some_flag taken true = let part = some_part taken FLAG_KIND in (Some (record { offset = part.offset; bit = part.bit }), part.is)

-- a field has a place: that of its flag, and behind it that of its value
some_place : (taken : List Slot) (kind : KindTree) → (place : Place) × IsPlaced taken kind place
some_place taken kind =
    let flag = some_flag taken (has_flag kind) in
    let value = some_part (flag_slots flag.0 ++ taken) kind in
    (record { offset = value.offset; bit = value.bit; flag = flag.0 }, record { flag = flag.1; value = value.is })

-- fields have least places, one behind the other
pub some_places : (taken : List Slot) (kinds : List KindTree) → (places : List Place) × ArePacked taken kinds places
some_places taken [] = ([], tt)
some_places taken (kind ∷ kinds) =
    let place = some_place taken kind in
    let others = some_places (part_slots kind place.0 ++ taken) kinds in
    (place.0 ∷ others.0, (place.1, others.1))

-- a struct that can be laid out has a layout
pub some_layout : (draft : DraftStruct) → CanBeLaidOut draft → (row : StructRow) × IsLaidOut row × (draft_of row ≡ draft)
some_layout draft can =
    let kinds = map (λ (f : DraftField). f.kind) draft.fields in
    let places = some_places [] kinds in
    let same = packed_length [] kinds places.0 places.1 ∙ length-map draft.fields (λ (f : DraftField). f.kind) in
    let rows = field_rows 0 draft.fields places.0 in
    let row : StructRow = record { name = draft.name; fields = rows; versions = version_rows rows; stable = draft.stable } in
    let is = laid_out draft.name draft.fields places.0 rows (version_rows rows) draft.stable can.few can.rising can.small places.1 same refl refl in
    (row, is.0, is.1)
