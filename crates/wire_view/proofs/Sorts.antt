-- Which sort of object a view is of.
use Rattle.std.proofs.Common.{◌≡◌, ℕ, ◌+◌, ◌-◌, true, false, List, Option, Some, None, Bor, inl, inr, refl, sym, ap, subst, ◌∙◌}
use Rattle.std.specs.Prelude.{◌==◌, slice_get}
use Rattle.mj_base.specs.Bytes.{number32, number64}
use Rattle.mj_schema.specs.KindTrees.{KindTree, ArrayKind, kind_view}
use Rattle.mj_schema.specs.declared.kind.KindNode.{KindNode}
use Rattle.mj_schema.specs.declared.rows.StructRow.{StructRow}
use Rattle.mj_schema.specs.declared.rows.UnionRow.{UnionRow}
use Rattle.mj_schema.specs.declared.schema.Schema.{Schema}
use Rattle.wire_model.specs.Marks.{Next, visit, pointer_marks}
use Rattle.wire_model.specs.Rows.{kind_of_tag}
use Rattle.wire_model.specs.Slots.{element_slots}
use Rattle.wire_model.specs.Trees.{Tree, Trees, Items, Pairs, Fields, none, more}
use Rattle.wire_model.specs.Values.{Behind, value, object_value, pointer_value, found_struct_value, found_union_value, member_value, cell_value, slots_value}
use Rattle.readable_marks.specs.Readable.{AreReadable}
use Rattle.readable_marks.proofs.Reading.{ReadableMap, value_behind}
use Rattle.wire_view.specs.Ons.{on_kind}
use Rattle.wire_view.specs.Parts.{is_object}
use Rattle.wire_view.specs.Shapes.{HasShape}
use Rattle.wire_view.specs.declared.on.On.{On}
use Rattle.wire_view.specs.declared.on.On.TheVariants as ons
use Rattle.wire_view.specs.declared.shapes.Shape.TheVariants as shapes
use Rattle.wire_view.proofs.Bytes.{by_test, some_level}
use Rattle.wire_view.proofs.Standing.{array_tree, map_tree, found_tree}

-- what stands inside an object
abbrev inside : Tree → Trees
inside (Fields ts) = ts
inside (Items ts) = ts
inside (Pairs ts) = ts
inside t = none

of_row : (next : Behind) (schema : Schema) (bytes : List ℕ) (at : ℕ) (row : Option StructRow) → is_object (found_struct_value next schema bytes at row) ≡ true
    → HasShape shapes.Struct (found_struct_value next schema bytes at row)
of_row next schema bytes at None whole = absurd cc
of_row next schema bytes at (Some row) whole = (inside (found_struct_value next schema bytes at (Some row)), refl)

member_shape : (next : Behind) (bytes : List ℕ) (p tag : ℕ) (k : Option KindTree) → HasShape shapes.Union (member_value next bytes p tag k)
member_shape next bytes p tag None = (tag, inl refl)
member_shape next bytes p tag (Some k) = (tag, inr (cell_value next bytes (p + 8) 0 k, refl))

of_union_row : (next : Behind) (bytes : List ℕ) (p : ℕ) (row : Option UnionRow) → is_object (found_union_value next bytes p row) ≡ true
    → HasShape shapes.Union (found_union_value next bytes p row)
of_union_row next bytes p None whole = absurd cc
of_union_row next bytes p (Some row) whole = member_shape next bytes p (number32 bytes (p + 4)) (kind_of_tag row.fields (number32 bytes (p + 4)))

-- one of the lists of a map is there
not_null : (n : ℕ) (next : Next) (bytes : List ℕ) (p : ℕ) (k : KindTree) → (number64 bytes p == 0) ≡ true
    → AreReadable n (pointer_marks next bytes p k false) → ⊥
unfolding pointer_marks
not_null n next bytes p k null h = let parts = rw null at h in absurd cc

elements : (next : Behind) (schema : Schema) (bytes : List ℕ) (q : ℕ) (of : KindTree)
    → HasShape shapes.Array (object_value next schema bytes q (ArrayKind of None false))
unfolding object_value
elements next schema bytes q of = (inside (object_value next schema bytes q (ArrayKind of None false)), refl)

list_there : (n left : ℕ) (schema : Schema) (bytes : List ℕ) (p : ℕ) (of : KindTree)
    → AreReadable n (pointer_marks (visit left schema bytes) bytes p (ArrayKind of None false) false)
    → HasShape shapes.Array (pointer_value (value left schema bytes) bytes p (ArrayKind of None false))
list_there n left schema bytes p of h =
    by_test (number64 bytes p == 0)
    (λ b. (number64 bytes p == 0) ≡ b → HasShape shapes.Array (pointer_value (value left schema bytes) bytes p (ArrayKind of None false)))
    (λ _ null. absurd (not_null n (visit left schema bytes) bytes p (ArrayKind of None false) null h)) (λ _ some.
    let list = elements (value (left - 1) schema bytes) schema bytes (p + number64 bytes p) of in
    let level = some_level n left schema bytes p (ArrayKind of None false) false some h in
    (list.0, value_behind left (left - 1) schema bytes p (ArrayKind of None false) level some ∙ list.1)) refl

module _ (next : Behind) (schema : Schema) (bytes : List ℕ) (at : ℕ) (on : On) (whole : is_object (object_value next schema bytes at (on_kind on)) ≡ true) where
  pub struct_shape : (number : ℕ) → on ≡ ons.Struct number → HasShape shapes.Struct (object_value next schema bytes at (on_kind on))
  unfolding object_value
  struct_shape number is =
      let tree : found_struct_value next schema bytes at (slice_get schema.structs number) ≡ object_value next schema bytes at (on_kind on) =
      ap (λ o. object_value next schema bytes at (on_kind o)) (sym is) in
      let found = of_row next schema bytes at (slice_get schema.structs number) (ap is_object tree ∙ whole) in
      (found.0, sym tree ∙ found.1)

  pub array_shape : (of : Bor KindNode) → on ≡ ons.Array of → HasShape shapes.Array (object_value next schema bytes at (on_kind on))
  array_shape of is = (
    slots_value next schema bytes (at + 8) (element_slots (kind_view of.now) 0 (number32 bytes (at + 4))) none,
    sym (array_tree next schema bytes at on of is),
  )

  pub union_shape : (number : ℕ) → on ≡ ons.Union number → HasShape shapes.Union (object_value next schema bytes at (on_kind on))
  union_shape number is =
      let tree = found_tree next schema bytes at on number is whole in
      let found = of_union_row next bytes at (slice_get schema.unions number) (ap is_object tree ∙ whole) in
      subst (HasShape shapes.Union) tree found

pub map_shape : (n left : ℕ) (schema : Schema) (bytes : List ℕ) (at : ℕ) (on : On) (key one : Bor KindNode) → on ≡ ons.Map key one
    → ReadableMap n (visit left schema bytes) bytes at (kind_view key.now) (kind_view one.now)
    → HasShape shapes.Map (object_value (value left schema bytes) schema bytes at (on_kind on))
map_shape n left schema bytes at on key one is readable =
    let next : Behind = value left schema bytes in
    let ks = list_there n left schema bytes (at + 8) (kind_view key.now) readable.keys in
    let vs = list_there n left schema bytes (at + 16) (kind_view one.now) readable.values in (
      ks.0,
      vs.0,
      sym (map_tree next schema bytes at on key one is)
          ∙ ap (λ (a : Tree). Pairs (more a (more (pointer_value next bytes (at + 16) (ArrayKind (kind_view one.now) None false)) none))) ks.1
          ∙ ap (λ (b : Tree). Pairs (more (Items ks.0) (more b none))) vs.1,
    )
