-- Two schemas, and pairs of their rows of which the second reads what the first writes.
use Rattle.std.specs.Prelude.{◌≡◌, ℕ, ℤ, Bool, true, IsTrue, List, [], ◌∷◌, length, Option, Some, slice_get}
use Rattle.mj_schema.specs.KindTrees as kinds
use Rattle.mj_schema.specs.KindTrees.{KindTree}
use Rattle.mj_schema.specs.declared.rows.StructRow.{StructRow}
use Rattle.mj_schema.specs.declared.schema.Schema.{Schema}
use Rattle.wire_model.specs.Marks.{count_is, is_known, row_fits, slots_up_to}
use Rattle.wire_model.specs.Rows.{kind_in, row_for}
use Rattle.wire_model.specs.Slots.{Slot, found_fields, found_size, found_version}

-- a row of the older schema and a row of the newer one, by their numbers
pub data Pair : Type 0 where
  Structs : (old new : ℕ) → Pair
  Unions : (old new : ℕ) → Pair
  Enums : (old new : ℕ) → Pair

-- what may be null in the older may be null in the newer
abbrev pub Grows : Bool → Bool → Type 0
Grows old new = IsTrue old → IsTrue new

-- each count that the older has
abbrev pub CountFits : Option ℕ → Option ℕ → Type 0
CountFits old new = (n : ℕ) → IsTrue (count_is old n) → IsTrue (count_is new n)

-- kinds of one form whose structs, unions and enums are among the pairs; a number, a bool or an enum may be null in both or in neither
abbrev pub KindFits : (Pair → Type 0) → KindTree → KindTree → Type 0
KindFits P (kinds.BoolKind n) k = k ≡ kinds.BoolKind n
KindFits P (kinds.IntKind width signed n) k = k ≡ kinds.IntKind width signed n
KindFits P (kinds.EnumKind i n) k = (j : ℕ) × (k ≡ kinds.EnumKind j n) × P (Enums i j)
KindFits P (kinds.TextKind n) k = (m : Bool) × (k ≡ kinds.TextKind m) × Grows n m
KindFits P (kinds.HandleKind sort n) k = (m : Bool) × (k ≡ kinds.HandleKind sort m) × Grows n m
KindFits P (kinds.ArrayKind of c n) k =
    (of' : KindTree) × (c' : Option ℕ) × (m : Bool) × (k ≡ kinds.ArrayKind of' c' m) × KindFits P of of' × CountFits c c' × Grows n m
KindFits P (kinds.MapKind key value n) k =
    (key' : KindTree) × (value' : KindTree) × (m : Bool) × (k ≡ kinds.MapKind key' value' m) × KindFits P key key' × KindFits P value value' × Grows n m
KindFits P (kinds.StructKind i n) k = (j : ℕ) × (m : Bool) × (k ≡ kinds.StructKind j m) × P (Structs i j) × Grows n m
KindFits P (kinds.UnionKind i n) k = (j : ℕ) × (m : Bool) × (k ≡ kinds.UnionKind j m) × P (Unions i j) × Grows n m
KindFits P (kinds.RemoteKind i n) k = (j : ℕ) × (m : Bool) × (k ≡ kinds.RemoteKind j m) × Grows n m
KindFits P (kinds.ReceiverKind i n) k = (j : ℕ) × (m : Bool) × (k ≡ kinds.ReceiverKind j m) × Grows n m
KindFits P (kinds.AssociatedRemoteKind i n) k = (j : ℕ) × (m : Bool) × (k ≡ kinds.AssociatedRemoteKind j m) × Grows n m
KindFits P (kinds.AssociatedReceiverKind i n) k = (j : ℕ) × (m : Bool) × (k ≡ kinds.AssociatedReceiverKind j m) × Grows n m

-- slots at the same places, with the same flags, of kinds that fit
abbrev pub SlotsFit : (Pair → Type 0) → List Slot → List Slot → Type 0
SlotsFit P [] [] = Unit {0}
SlotsFit P [] (s' ∷ ss') = ⊥
SlotsFit P (s ∷ ss) [] = ⊥
SlotsFit P (s ∷ ss) (s' ∷ ss') = (s'.place ≡ s.place) × (s'.flag ≡ s.flag) × KindFits P s.kind s'.kind × SlotsFit P ss ss'

-- the newer struct has a row for the older one's newest version: its bytes, its number of fields, its slots
pub record RowFits (P : Pair → Type 0) (row row' : StructRow) : Type 0 where
  pub bytes : row_fits row'.versions (found_version (Some row)) (found_size (Some row)) ≡ true
  pub fields : (row_for row'.versions (found_version (Some row))).fields ≡ length row.fields
  pub slots : SlotsFit P (found_fields (Some row)) (slots_up_to row' (found_version (Some row)))

-- pairs of which each is read, and whose rows name structs, unions and enums of pairs alone; of interfaces nothing is asked
pub record IsClosed (old new : Schema) (P : Pair → Type 0) : Type 0 where
  pub structs : (i j : ℕ) (row : StructRow) → P (Structs i j) → slice_get old.structs i ≡ Some row
      → (row' : StructRow) × (slice_get new.structs j ≡ Some row') × RowFits P row row'
  pub unions : (i j tag : ℕ) (k : KindTree) → P (Unions i j) → kind_in (slice_get old.unions i) tag ≡ Some k
      → (k' : KindTree) × (kind_in (slice_get new.unions j) tag ≡ Some k') × KindFits P k k'
  pub enums : (i j : ℕ) (n : ℤ) → P (Enums i j) → IsTrue (is_known (slice_get old.enums i) n) → IsTrue (is_known (slice_get new.enums j) n)
