-- Where a part lies.
use Rattle.std.specs.Prelude.{◌≡◌, ℕ, ◌+◌, ◌/◌, ◌<◌, ◌≤◌, Bool, true, false, IsTrue, List, Option, Some, None}
use Rattle.std.specs.Option.{option_map_or}
use Rattle.mj_schema.specs.KindTrees.{KindTree, ArrayKind, kind_view}
use Rattle.mj_schema.specs.Sound.{is_text}
use Rattle.mj_schema.specs.Versions.{bytes_of}
use Rattle.mj_schema.specs.declared.rows.FieldRow.{FieldRow}
use Rattle.mj_schema.specs.declared.schema.Schema.{Schema}
use Rattle.wire_model.specs.Absent.{absent_field}
use Rattle.wire_model.specs.Marks.{Next, slot_marks, cell_marks, pointer_marks}
use Rattle.wire_model.specs.Trees.{Tree, Null}
use Rattle.wire_model.specs.Values.{Behind, slot_value, cell_value, pointer_value}
use Rattle.wire_model.specs.steps.Cells.{cell_size}
use Rattle.readable_marks.specs.Readable.{AreReadable}
use Rattle.wire_view.specs.declared.places.Place.{Place}
use Rattle.wire_view.specs.declared.places.Place.TheVariants as places

-- a field that its object lacks; its default, where that is a text, is UTF-8
pub record IsAbsent (schema : Schema) (found : Option Tree) (field : FieldRow) : Type 0 where
  pub text : IsTrue (option_map_or is_text field.default true)
  pub is : found ≡ Some (absent_field schema field.default field.kind)

-- a slot within so many bytes that holds the part, which is of this kind
pub record IsSlot (n : ℕ) (marks : Next) (next : Behind) (schema : Schema) (bytes : List ℕ) (found : Option Tree) (of : Option KindTree) (at bit : ℕ)
    (k : KindTree)
    : Type 0 where
  pub bit_of_byte : bit < 8
  pub room : at + bytes_of k ≤ n
  pub readable : AreReadable n (slot_marks marks schema bytes at k)
  pub is : found ≡ Some (slot_value next schema bytes at bit k)
  pub kind : of ≡ Some k

-- one in a union
pub record IsMember (n : ℕ) (marks : Next) (next : Behind) (schema : Schema) (bytes : List ℕ) (found : Option Tree) (of : Option KindTree) (at : ℕ)
    (k : KindTree)
    : Type 0 where
  pub room : at + (cell_size k + 7) / 8 ≤ n
  pub readable : AreReadable n (cell_marks marks schema bytes at k)
  pub is : found ≡ Some (cell_value next bytes at 0 k)
  pub kind : of ≡ Some k

-- a pointer to the list of elements that the part is
pub record IsList (n : ℕ) (marks : Next) (next : Behind) (bytes : List ℕ) (found : Option Tree) (of : Option KindTree) (at : ℕ) (k : KindTree) : Type 0 where
  pub room : at + 8 ≤ n
  pub readable : AreReadable n (pointer_marks marks bytes at (ArrayKind k None false) false)
  pub is : found ≡ Some (pointer_value next bytes at (ArrayKind k None false))
  pub kind : of ≡ Some (ArrayKind k None false)

-- the place of a part
abbrev pub IsPlace : ℕ → Next → Behind → Schema → List ℕ → Option Tree → Option KindTree → Place → Type 0
IsPlace n marks next schema bytes found of places.Nothing = found ≡ None
IsPlace n marks next schema bytes found of places.Null = found ≡ Some Null
IsPlace n marks next schema bytes found of (places.Absent field) = IsAbsent schema found field.now
IsPlace n marks next schema bytes found of (places.Slot at bit kind) = IsSlot n marks next schema bytes found of at bit (kind_view kind.now)
IsPlace n marks next schema bytes found of (places.Member at kind) = IsMember n marks next schema bytes found of at (kind_view kind.now)
IsPlace n marks next schema bytes found of (places.List at kind) = IsList n marks next bytes found of at (kind_view kind.now)

-- where a field may lie
abbrev pub is_field : Place → Bool
is_field (places.Member at kind) = false
is_field (places.List at kind) = false
is_field p = true

-- where an element may lie
abbrev pub is_element : Place → Bool
is_element places.Nothing = true
is_element (places.Slot at bit kind) = true
is_element p = false
