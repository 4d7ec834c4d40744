use Rattle.std.proofs.Common.{◌≡◌, true, false, Option, Some, sym, ap, ◌∙◌}
use Rattle.std.specs.Prelude.{option_and_then}
use Rattle.mj_schema.specs.KindTrees.{KindTree, kind_view}
use Rattle.wire_model.specs.Trees.{Tree}
use Rattle.wire_view.specs.Parts.{held, is_array, kind_at, of_kind, part}
use Rattle.wire_view.specs.Views.{kind_of, schema_of, tree_of}
use Rattle.wire_view.proofs.AbsentFacts.{absent_held}
use Rattle.wire_view.proofs.SortedViews.{none_wanted, struct_on}
use Rattle.wire_view.proofs.struct_view.StructView.array.Goals as goal

pub field_place-requires : goal.field_place-requires
field_place-requires c = struct_on c.args.self.now.view.on c.args.self.now.stands

pub array_in-requires-clause-bit : goal.array_in-requires-clause-bit
array_in-requires-clause-bit c = c.in-Slot.ensures.place.bit_of_byte

pub array_in-requires-clause-within : goal.array_in-requires-clause-within
array_in-requires-clause-within c = c.in-Slot.ensures.place.room

pub array_in-requires-clause-readable : goal.array_in-requires-clause-readable
array_in-requires-clause-readable c = c.in-Slot.ensures.place.readable

pub returns-in-Slot : goal.returns-in-Slot
returns-in-Slot c =
    let v = c.args.self.now.view in
    let found = part (tree_of v) c.args.i in
    c.array_in.ensures
    ∙ ap (λ (o : Option Tree). option_and_then held (of_kind is_array (Some (kind_view c.in-Slot.kind.now)) o)) (sym c.in-Slot.ensures.place.is)
    ∙ ap (λ (l : Option KindTree). option_and_then held (of_kind is_array l found)) (sym c.in-Slot.ensures.place.kind)

pub returns-in-Absent : goal.returns-in-Absent
returns-in-Absent c =
    let v = c.args.self.now.view in
    let of = kind_at (schema_of v) (kind_of v) c.args.i in
    let found = part (tree_of v) c.args.i in
    let field = c.in-Absent.field-0.now in
    none_wanted is_array of found (absent_held v.schema.now field.default field.kind ∙ ap (option_and_then held) (sym c.in-Absent.ensures.place.is))

pub returns-in-Null : goal.returns-in-Null
returns-in-Null c =
    let v = c.args.self.now.view in
    let of = kind_at (schema_of v) (kind_of v) c.args.i in
    let found = part (tree_of v) c.args.i in
    none_wanted is_array of found (ap (option_and_then held) (sym c.in-Null.ensures.place))

pub returns-in-Nothing : goal.returns-in-Nothing
returns-in-Nothing c =
    let v = c.args.self.now.view in
    let of = kind_at (schema_of v) (kind_of v) c.args.i in
    let found = part (tree_of v) c.args.i in
    none_wanted is_array of found (ap (option_and_then held) (sym c.in-Nothing.ensures.place))

-- no field lies there

pub unreachable-requires : goal.unreachable-requires
unreachable-requires c = let no : false ≡ true = c.in-Member.ensures.own in cc

pub unreachable-requires-in-List : goal.unreachable-requires-in-List
unreachable-requires-in-List c = let no : false ≡ true = c.in-List.ensures.own in cc
