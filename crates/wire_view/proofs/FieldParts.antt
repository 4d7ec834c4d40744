-- The parts of what a view of a struct stands on.
use Rattle.std.proofs.Common.{◌≡◌, ℕ, ◌+◌, ◌<◌, ◌≤◌, true, false, List, length, take, Option, Some, None, sym, ap, subst, ◌∙◌}
use Rattle.std.specs.Prelude.{slice_get}
use Rattle.mj_base.specs.Bytes.{number32}
use Rattle.mj_schema.specs.KindTrees.{KindTree}
use Rattle.mj_schema.specs.Parts.{flag_place}
use Rattle.mj_schema.specs.declared.rows.FieldRow.{FieldRow}
use Rattle.wire_model.specs.Marks.{visit, has_value}
use Rattle.wire_model.specs.Rows.{row_for}
use Rattle.wire_model.specs.Trees.{Tree, Null}
use Rattle.wire_model.specs.Values.{value, struct_value}
use Rattle.readable_marks.specs.steps.Rooms.{EndsIn}
use Rattle.wire_view.specs.Ons.{on_kind}
use Rattle.wire_view.specs.Parts.{part, kind_at}
use Rattle.wire_view.specs.Views.{tree_of}
use Rattle.wire_view.specs.declared.on.On.TheVariants as ons
use Rattle.wire_view.specs.declared.view.View.{View}
use Rattle.wire_view.specs.steps.Placed.{IsSlot, IsAbsent}
use Rattle.wire_view.proofs.Defaults.{default_text, row_texts}
use Rattle.wire_view.proofs.Fields.{within, null_found, slot_found, absent_found, nothing_found}
use Rattle.wire_view.proofs.Kept.{the_row, found, fields_are, known_are, row_stands, version_stands, tree_is, kind_is, known_first, lacked_behind, none_known}

module _ (v : View) (number : ℕ) (is : v.on ≡ ons.Struct number) where
  -- how many fields its version has
  abbrev many : ℕ
  many = (row_for (the_row v number is).versions (number32 v.bytes.now (v.at + 4))).fields

  -- a part of the struct is one of the view's
  seen : (i : ℕ)
      → part (struct_value (value v.left v.schema.now v.bytes.now) v.schema.now v.bytes.now v.at (the_row v number is) (number32 v.bytes.now (v.at + 4))) i
      ≡ part (tree_of v) i
  seen i = ap (λ (t : Tree). part t i) (tree_is v number is)

  -- a field that is kept is one of the row's
  of_row : (i : ℕ) (f : FieldRow) → Some f ≡ slice_get v.fields.now i → Some f ≡ slice_get (the_row v number is).fields i
  of_row i f e = e ∙ ap (λ (fs : List FieldRow). slice_get fs i) (fields_are v number is)

  here : (i : ℕ) (f : FieldRow) → Some f ≡ slice_get v.fields.now i → i < v.known → Some f ≡ slice_get (take many (the_row v number is).fields) i
  here i f e lt = known_first many i (the_row v number is).fields f (subst (λ (n : ℕ). i < n) (known_are v number is) lt) (of_row i f e)

  -- one that the version has lies within the bytes
  pub ends_in : (i : ℕ) (f : FieldRow) → Some f ≡ slice_get v.fields.now i → i < v.known → EndsIn (v.at + 8) (length v.bytes.now) f
  ends_in i f e lt =
      within v.left v.schema.now v.bytes.now v.at (the_row v number is) (row_stands v number is) i f (version_stands v number is).within (here i f e lt)

  pub slot_is : (i : ℕ) (f : FieldRow) (k : KindTree) → Some f ≡ slice_get v.fields.now i → i < v.known
      → has_value v.bytes.now (v.at + 8) (flag_place f.flag) ≡ true → k ≡ f.kind
      → IsSlot (length v.bytes.now) (visit v.left v.schema.now v.bytes.now) (value v.left v.schema.now v.bytes.now) v.schema.now v.bytes.now
      (part (tree_of v) i) (kind_at v.schema.now (on_kind v.on) i) (v.at + 8 + f.offset) f.bit k
  slot_is i f k e lt has same =
      let n = length v.bytes.now in
      let marks = visit v.left v.schema.now v.bytes.now in
      let next = value v.left v.schema.now v.bytes.now in
      let slot = slot_found v.left v.schema.now v.bytes.now v.at (the_row v number is) (row_stands v number is) i f k (version_stands v number is).within
      (here i f e lt) has same in
      subst (λ (o : Option Tree). IsSlot n marks next v.schema.now v.bytes.now o (kind_at v.schema.now (on_kind v.on) i) (v.at + 8 + f.offset) f.bit k)
      (seen i)
      (subst (λ (of : Option KindTree). IsSlot n marks next v.schema.now v.bytes.now
      (part (struct_value next v.schema.now v.bytes.now v.at (the_row v number is) (number32 v.bytes.now (v.at + 4))) i) of (v.at + 8 + f.offset) f.bit k)
      (kind_is v number is i) slot)

  pub null_is : (i : ℕ) (f : FieldRow) → Some f ≡ slice_get v.fields.now i → i < v.known
      → has_value v.bytes.now (v.at + 8) (flag_place f.flag) ≡ false → part (tree_of v) i ≡ Some Null
  null_is i f e lt hasn't =
      sym (seen i)
      ∙ null_found v.left v.schema.now v.bytes.now v.at (the_row v number is) (row_stands v number is) i f (version_stands v number is).within (here i f e lt)
      hasn't

  -- one that it lacks
  pub absent_is : (i : ℕ) (f : FieldRow) → Some f ≡ slice_get v.fields.now i → v.known ≤ i → IsAbsent v.schema.now (part (tree_of v) i) f
  absent_is i f e le =
      let lacks : None ≡ slice_get (take many (the_row v number is).fields) i =
      lacked_behind many i (the_row v number is).fields (subst (λ (n : ℕ). n ≤ i) (known_are v number is) le) in
      record {
        text = default_text (the_row v number is).fields i f (row_texts v.schema.now number (the_row v number is) (found v number is)) (of_row i f e);
        is = sym (seen i)
            ∙ absent_found v.left v.schema.now v.bytes.now v.at (the_row v number is) (row_stands v number is) i f (version_stands v number is).fields lacks
            (of_row i f e);
      }

  -- none has a greater number
  pub nothing_is : (i : ℕ) → None ≡ slice_get v.fields.now i → part (tree_of v) i ≡ None
  nothing_is i e =
      let none : None ≡ slice_get (the_row v number is).fields i = e ∙ ap (λ (fs : List FieldRow). slice_get fs i) (fields_are v number is) in
      sym (seen i)
      ∙ nothing_found v.left v.schema.now v.bytes.now v.at (the_row v number is) (row_stands v number is) i (version_stands v number is).fields
      (none_known many i (the_row v number is).fields none) none
