-- What a view stands on.
use Rattle.std.proofs.Common.{◌≡◌, ℕ, ◌+◌, ◌≤◌, Bool, true, false, cond, List, Option, Some, None, Bor, refl, sym, ap, subst, ◌∙◌}
use Rattle.std.specs.Prelude.{◌==◌, slice_get}
use Rattle.mj_base.specs.Bytes.{number32}
use Rattle.mj_schema.specs.KindTrees.{StructKind, ArrayKind, MapKind, UnionKind, KindTree, kind_view}
use Rattle.mj_schema.specs.declared.kind.KindNode.{KindNode}
use Rattle.mj_schema.specs.declared.rows.StructRow.{StructRow}
use Rattle.mj_schema.specs.declared.schema.Schema.{Schema}
use Rattle.wire_model.specs.Marks.{Next, object_marks, found_struct_marks, found_union_marks, struct_marks}
use Rattle.wire_model.specs.Slots.{element_slots}
use Rattle.wire_model.specs.Trees.{Items, Pairs, Null, none, more}
use Rattle.wire_model.specs.Values.{Behind, object_value, found_struct_value, found_union_value, struct_value, slots_value, pointer_value, union_value}
use Rattle.readable_marks.specs.Readable.{AreReadable}
use Rattle.readable_marks.proofs.Reading.{ReadableArray, ReadableMap, not_zero, object_array, object_map}
use Rattle.wire_view.specs.Ons.{on_kind}
use Rattle.wire_view.specs.Parts.{is_object}
use Rattle.wire_view.specs.declared.on.On.{On}
use Rattle.wire_view.specs.declared.on.On.TheVariants as ons
use Rattle.wire_view.specs.Readable.{are_readable}
use Rattle.wire_view.proofs.Readable.{to_readable}
use Rattle.wire_view.proofs.Targets.{pointed_union}

-- the marks of a struct whose row is there
pub row_readable : (n : ℕ) (next : Next) (schema : Schema) (bytes : List ℕ) (at number : ℕ) (row : StructRow) → Some row ≡ slice_get schema.structs number
    → AreReadable n (object_marks next schema bytes at (StructKind number false)) → AreReadable n (struct_marks next schema bytes at row)
unfolding object_marks
row_readable n next schema bytes at number row found h = subst (λ r. AreReadable n (found_struct_marks next schema bytes at r)) (sym found) h

module _ (n : ℕ) (next : Next) (schema : Schema) (bytes : List ℕ) (at : ℕ) (on : On)
    (readable : are_readable n (object_marks next schema bytes at (on_kind on)) ≡ true) where
  pub struct_readable : (number : ℕ) (row : StructRow) → on ≡ ons.Struct number → Some row ≡ slice_get schema.structs number
      → AreReadable n (struct_marks next schema bytes at row)
  struct_readable number row is found =
      let marks : AreReadable n (object_marks next schema bytes at (StructKind number false)) =
      subst (λ o. AreReadable n (object_marks next schema bytes at (on_kind o))) is (to_readable n (object_marks next schema bytes at (on_kind on)) readable) in
      row_readable n next schema bytes at number row found marks

  pub array_readable : (of : Bor KindNode) → on ≡ ons.Array of → ReadableArray n next schema bytes at (kind_view of.now)
  array_readable of is =
      let marks : AreReadable n (object_marks next schema bytes at (ArrayKind (kind_view of.now) None false)) =
      subst (λ o. AreReadable n (object_marks next schema bytes at (on_kind o))) is (to_readable n (object_marks next schema bytes at (on_kind on)) readable) in
      object_array n next schema bytes at (ArrayKind (kind_view of.now) None false) (kind_view of.now) None false refl marks

  pub map_readable : (key one : Bor KindNode) → on ≡ ons.Map key one → ReadableMap n next bytes at (kind_view key.now) (kind_view one.now)
  map_readable key one is =
      let k : KindTree = MapKind (kind_view key.now) (kind_view one.now) false in
      let marks : AreReadable n (object_marks next schema bytes at k) =
      subst (λ o. AreReadable n (object_marks next schema bytes at (on_kind o))) is (to_readable n (object_marks next schema bytes at (on_kind on)) readable) in
      object_map n next schema bytes at k (kind_view key.now) (kind_view one.now) false refl marks

  pub union_readable : (number : ℕ) → on ≡ ons.Union number
      → (at + 16 ≤ n) × ((number32 bytes at ≡ 0 → ⊥) → AreReadable n (found_union_marks next schema bytes at (slice_get schema.unions number)))
  union_readable number is =
      let marks : AreReadable n (object_marks next schema bytes at (UnionKind number false)) =
      subst (λ o. AreReadable n (object_marks next schema bytes at (on_kind o))) is (to_readable n (object_marks next schema bytes at (on_kind on)) readable) in
      pointed_union n next schema bytes at (UnionKind number false) number false refl marks

module _ (next : Behind) (schema : Schema) (bytes : List ℕ) (at : ℕ) (on : On) where
  pub struct_tree : (number : ℕ) (row : StructRow) → on ≡ ons.Struct number → Some row ≡ slice_get schema.structs number
      → struct_value next schema bytes at row (number32 bytes (at + 4)) ≡ object_value next schema bytes at (on_kind on)
  unfolding object_value
  struct_tree number row is found =
      ap (found_struct_value next schema bytes at) found ∙ ap (λ o. object_value next schema bytes at (on_kind o)) (sym is)

  -- the row of a struct is there
  some_row : (o : Option StructRow) → is_object (found_struct_value next schema bytes at o) ≡ true → (row : StructRow) × (Some row ≡ o)
  some_row None whole = absurd cc
  some_row (Some row) whole = (row, refl)

  pub row_there : (number : ℕ) → on ≡ ons.Struct number → is_object (object_value next schema bytes at (on_kind on)) ≡ true
      → (row : StructRow) × (Some row ≡ slice_get schema.structs number)
  unfolding object_value
  row_there number is whole =
      let tree : found_struct_value next schema bytes at (slice_get schema.structs number) ≡ object_value next schema bytes at (on_kind on) =
      ap (λ o. object_value next schema bytes at (on_kind o)) (sym is) in
      some_row (slice_get schema.structs number) (ap is_object tree ∙ whole)

  pub array_tree : (of : Bor KindNode) → on ≡ ons.Array of
      → Items (slots_value next schema bytes (at + 8) (element_slots (kind_view of.now) 0 (number32 bytes (at + 4))) none)
      ≡ object_value next schema bytes at (on_kind on)
  unfolding object_value
  array_tree of is = ap (λ o. object_value next schema bytes at (on_kind o)) (sym is)

  pub map_tree : (key one : Bor KindNode) → on ≡ ons.Map key one
      → Pairs (more (pointer_value next bytes (at + 8) (ArrayKind (kind_view key.now) None false))
      (more (pointer_value next bytes (at + 16) (ArrayKind (kind_view one.now) None false)) none))
      ≡ object_value next schema bytes at (on_kind on)
  unfolding object_value
  map_tree key one is = ap (λ o. object_value next schema bytes at (on_kind o)) (sym is)

  pub union_tree : (number : ℕ) → on ≡ ons.Union number → union_value next schema bytes at number ≡ object_value next schema bytes at (on_kind on)
  unfolding object_value
  union_tree number is = ap (λ o. object_value next schema bytes at (on_kind o)) (sym is)

  -- a union that isn't null has a size
  union_some : (number : ℕ) → is_object (union_value next schema bytes at number) ≡ true → number32 bytes at ≡ 0 → ⊥
  unfolding union_value
  union_some number whole zero' =
      let null : is_object (union_value next schema bytes at number) ≡ false =
      ap (λ (m : ℕ). is_object (cond (m == 0) Null (found_union_value next bytes at (slice_get schema.unions number)))) zero' in
      false_is_true (sym null ∙ whole)
    where
      false_is_true : false ≡ true → ⊥
      false_is_true e = cc

  pub union_sized : (number : ℕ) → on ≡ ons.Union number → is_object (object_value next schema bytes at (on_kind on)) ≡ true → number32 bytes at ≡ 0 → ⊥
  union_sized number is whole = union_some number (ap is_object (union_tree number is) ∙ whole)

  pub found_tree : (number : ℕ) → on ≡ ons.Union number → is_object (object_value next schema bytes at (on_kind on)) ≡ true
      → found_union_value next bytes at (slice_get schema.unions number) ≡ object_value next schema bytes at (on_kind on)
  unfolding union_value
  found_tree number is whole =
      sym (ap (λ (b : Bool). cond b Null (found_union_value next bytes at (slice_get schema.unions number)))
      (not_zero (number32 bytes at) (number32 bytes at) refl (union_sized number is whole)))
      ∙ union_tree number is
