-- What a slot holds goes by its kind.
use Rattle.std.proofs.Common.{◌≡◌, ℕ, ℤ, pos, zero, suc, ◌+◌, Bool, true, false, cond, List, Option, Some, None, refl}
use Rattle.std.specs.Prelude.{◌==◌, slice_get}
use Rattle.mj_base.specs.Bytes.{number32, number64}
use Rattle.mj_schema.specs.KindTrees as kinds
use Rattle.mj_schema.specs.KindTrees.{KindTree}
use Rattle.mj_schema.specs.declared.rows.StructRow.{StructRow}
use Rattle.mj_schema.specs.declared.rows.UnionRow.{UnionRow}
use Rattle.mj_schema.specs.declared.schema.Schema.{Schema}
use Rattle.wire_model.specs.Cells.{NO_INDEX}
use Rattle.wire_model.specs.Rows.{kind_of_tag}
use Rattle.wire_model.specs.Trees.{Tree, Items, Pairs, Fields, Member, Unknown, Handle, Remote, Endpoint, EndpointRemote, Null}
use Rattle.wire_model.specs.Values.{Behind, or_null, value, object_value, pointer_value, found_struct_value, union_value, found_union_value, member_value, slot_value, cell_value}
use Rattle.wire_view.specs.Parts.{is_object, is_string, number_of, text_of}
use Rattle.wire_view.specs.steps.SlotNumbers.{index_number, number_at}

-- null, or an object
abbrev is_hollow : Tree → Bool
is_hollow Null = true
is_hollow t = is_object t

hollow_number : (t : Tree) → is_hollow t ≡ true → None ≡ number_of t
hollow_number Null e = refl
hollow_number (Fields ts) e = refl
hollow_number (Items ts) e = refl
hollow_number (Pairs ts) e = refl
hollow_number (Member tag t) e = refl
hollow_number (Unknown tag) e = refl
hollow_number t e = absurd cc

hollow_text : (t : Tree) → is_hollow t ≡ true → None ≡ text_of t
hollow_text Null e = refl
hollow_text (Fields ts) e = refl
hollow_text (Items ts) e = refl
hollow_text (Pairs ts) e = refl
hollow_text (Member tag t) e = refl
hollow_text (Unknown tag) e = refl
hollow_text t e = absurd cc

-- what may be null
or_hollow : (b : Bool) (t : Tree) → is_hollow t ≡ true → is_hollow (cond b Null t) ≡ true
or_hollow true t e = refl
or_hollow false t e = e

or_no_number : (b : Bool) (t : Tree) → None ≡ number_of t → None ≡ number_of (cond b Null t)
or_no_number true t e = refl
or_no_number false t e = e

or_no_text : (b : Bool) (t : Tree) → None ≡ text_of t → None ≡ text_of (cond b Null t)
or_no_text true t e = refl
or_no_text false t e = e

or_number : (b : Bool) (n : ℤ) (t : Tree) → Some n ≡ number_of t → cond b None (Some n) ≡ number_of (cond b Null t)
or_number true n t e = refl
or_number false n t e = e

indexed : (index : ℕ) (t : Tree) → Some (pos index) ≡ number_of t → index_number index ≡ number_of (or_null index t)
indexed index t e = or_number (index == NO_INDEX) (pos index) t e

not_text : (index : ℕ) (t : Tree) → None ≡ text_of t → None ≡ text_of (or_null index t)
not_text index t e = or_no_text (index == NO_INDEX) t e

module _ (schema : Schema) (bytes : List ℕ) where
  of_struct : (next : Behind) (p : ℕ) (row : Option StructRow) → is_hollow (found_struct_value next schema bytes p row) ≡ true
  of_struct next p None = refl
  of_struct next p (Some row) = refl

  of_member : (next : Behind) (p tag : ℕ) (k : Option KindTree) → is_hollow (member_value next bytes p tag k) ≡ true
  of_member next p tag None = refl
  of_member next p tag (Some k) = refl

  of_row : (next : Behind) (p : ℕ) (row : Option UnionRow) → is_hollow (found_union_value next bytes p row) ≡ true
  of_row next p None = refl
  of_row next p (Some row) = of_member next p (number32 bytes (p + 4)) (kind_of_tag row.fields (number32 bytes (p + 4)))

  of_union : (next : Behind) (p number : ℕ) → is_hollow (union_value next schema bytes p number) ≡ true
  unfolding union_value
  of_union next p number =
      or_hollow (number32 bytes p == 0) (found_union_value next bytes p (slice_get schema.unions number)) (of_row next p (slice_get schema.unions number))

  -- what stands behind a pointer that leads to no string
  of_object : (next : Behind) (p : ℕ) (k : KindTree) → is_string k ≡ false → is_hollow (object_value next schema bytes p k) ≡ true
  unfolding object_value
  of_object next p (kinds.TextKind x) e = absurd cc
  of_object next p (kinds.ArrayKind of count x) e = refl
  of_object next p (kinds.MapKind key one x) e = refl
  of_object next p (kinds.StructKind number x) e = of_struct next p (slice_get schema.structs number)
  of_object next p (kinds.UnionKind number x) e = of_union next p number
  of_object next p k e = refl

  of_target : (left from p : ℕ) (k : KindTree) → is_string k ≡ false → is_hollow (value left schema bytes from p k) ≡ true
  unfolding value
  of_target zero from p k e = refl
  of_target (suc left) from p k e = of_object (value left schema bytes) p k e

  of_pointer : (left p : ℕ) (k : KindTree) → is_string k ≡ false → is_hollow (pointer_value (value left schema bytes) bytes p k) ≡ true
  unfolding pointer_value
  of_pointer left p k e =
      or_hollow (number64 bytes p == 0) (value left schema bytes p (p + number64 bytes p) k) (of_target left p (p + number64 bytes p) k e)

  -- a string is no number
  of_text : (left from p : ℕ) (x : Bool) → None ≡ number_of (value left schema bytes from p (kinds.TextKind x))
  unfolding value object_value
  of_text zero from p x = refl
  of_text (suc left) from p x = refl

  text_number : (left p : ℕ) (x : Bool) → None ≡ number_of (pointer_value (value left schema bytes) bytes p (kinds.TextKind x))
  unfolding pointer_value
  text_number left p x =
      or_no_number (number64 bytes p == 0) (value left schema bytes p (p + number64 bytes p) (kinds.TextKind x)) (of_text left p (p + number64 bytes p) x)

  -- what a pointer leads to, and a union, is no number, and but for a string no string
  pointed_number : (left p : ℕ) (k : KindTree) → is_string k ≡ false → None ≡ number_of (pointer_value (value left schema bytes) bytes p k)
  pointed_number left p k e = hollow_number (pointer_value (value left schema bytes) bytes p k) (of_pointer left p k e)

  pointed_text : (left p : ℕ) (k : KindTree) → is_string k ≡ false → None ≡ text_of (pointer_value (value left schema bytes) bytes p k)
  pointed_text left p k e = hollow_text (pointer_value (value left schema bytes) bytes p k) (of_pointer left p k e)

  held_number : (next : Behind) (p number : ℕ) → None ≡ number_of (union_value next schema bytes p number)
  held_number next p number = hollow_number (union_value next schema bytes p number) (of_union next p number)

  held_text : (next : Behind) (p number : ℕ) → None ≡ text_of (union_value next schema bytes p number)
  held_text next p number = hollow_text (union_value next schema bytes p number) (of_union next p number)

  -- the number in a slot
  pub slot_number : (left p bit : ℕ) (k : KindTree) → number_at bytes p bit k ≡ number_of (slot_value (value left schema bytes) schema bytes p bit k)
  unfolding slot_value cell_value
  slot_number left p bit (kinds.BoolKind x) = refl
  slot_number left p bit (kinds.IntKind width signed x) = refl
  slot_number left p bit (kinds.EnumKind number x) = refl
  slot_number left p bit (kinds.HandleKind sort x) = indexed (number32 bytes p) (Handle (number32 bytes p)) refl
  slot_number left p bit (kinds.ReceiverKind interface x) = indexed (number32 bytes p) (Handle (number32 bytes p)) refl
  slot_number left p bit (kinds.RemoteKind interface x) = indexed (number32 bytes p) (Remote (number32 bytes p) (number32 bytes (p + 4))) refl
  slot_number left p bit (kinds.AssociatedReceiverKind interface x) = indexed (number32 bytes p) (Endpoint (number32 bytes p)) refl
  slot_number left p bit (kinds.AssociatedRemoteKind interface x) =
      indexed (number32 bytes p) (EndpointRemote (number32 bytes p) (number32 bytes (p + 4))) refl
  slot_number left p bit (kinds.TextKind x) = text_number left p x
  slot_number left p bit (kinds.ArrayKind of count x) = pointed_number left p (kinds.ArrayKind of count x) refl
  slot_number left p bit (kinds.MapKind key one x) = pointed_number left p (kinds.MapKind key one x) refl
  slot_number left p bit (kinds.StructKind number x) = pointed_number left p (kinds.StructKind number x) refl
  slot_number left p bit (kinds.UnionKind number x) = held_number (value left schema bytes) p number

  -- a slot for no string holds none
  pub no_string : (left p bit : ℕ) (k : KindTree) → is_string k ≡ false
      → None ≡ text_of (slot_value (value left schema bytes) schema bytes p bit k)
  unfolding slot_value cell_value
  no_string left p bit (kinds.BoolKind x) e = refl
  no_string left p bit (kinds.IntKind width signed x) e = refl
  no_string left p bit (kinds.EnumKind number x) e = refl
  no_string left p bit (kinds.HandleKind sort x) e = not_text (number32 bytes p) (Handle (number32 bytes p)) refl
  no_string left p bit (kinds.ReceiverKind interface x) e = not_text (number32 bytes p) (Handle (number32 bytes p)) refl
  no_string left p bit (kinds.RemoteKind interface x) e = not_text (number32 bytes p) (Remote (number32 bytes p) (number32 bytes (p + 4))) refl
  no_string left p bit (kinds.AssociatedReceiverKind interface x) e = not_text (number32 bytes p) (Endpoint (number32 bytes p)) refl
  no_string left p bit (kinds.AssociatedRemoteKind interface x) e =
      not_text (number32 bytes p) (EndpointRemote (number32 bytes p) (number32 bytes (p + 4))) refl
  no_string left p bit (kinds.TextKind x) e = absurd cc
  no_string left p bit (kinds.ArrayKind of count x) e = pointed_text left p (kinds.ArrayKind of count x) refl
  no_string left p bit (kinds.MapKind key one x) e = pointed_text left p (kinds.MapKind key one x) refl
  no_string left p bit (kinds.StructKind number x) e = pointed_text left p (kinds.StructKind number x) refl
  no_string left p bit (kinds.UnionKind number x) e = held_text (value left schema bytes) p number
