use Rattle.std.proofs.Common.{◌≡◌, true, false, Option, Some, sym, ap, ◌∙◌}
use Rattle.std.specs.Prelude.{option_and_then}
use Rattle.mj_schema.specs.KindTrees.{KindTree, kind_view}
use Rattle.wire_model.specs.Trees.{Tree}
use Rattle.wire_view.specs.Parts.{held, is_struct, kind_at, of_kind, part}
use Rattle.wire_view.specs.Views.{kind_of, schema_of, tree_of}
use Rattle.wire_view.proofs.SortedViews.{none_wanted}
use Rattle.wire_view.proofs.array_view.ArrayView.item.Goals as goal

pub struct_in-requires-clause-bit : goal.struct_in-requires-clause-bit
struct_in-requires-clause-bit c = c.in-Slot.ensures.place.bit_of_byte

pub struct_in-requires-clause-within : goal.struct_in-requires-clause-within
struct_in-requires-clause-within c = c.in-Slot.ensures.place.room

pub struct_in-requires-clause-readable : goal.struct_in-requires-clause-readable
struct_in-requires-clause-readable c = c.in-Slot.ensures.place.readable

pub returns-in-Slot : goal.returns-in-Slot
returns-in-Slot c =
    let v = c.args.self.now.view in
    let found = part (tree_of v) c.args.j in
    c.struct_in.ensures
    ∙ ap (λ (o : Option Tree). option_and_then held (of_kind is_struct (Some (kind_view c.in-Slot.kind.now)) o)) (sym c.in-Slot.ensures.place.is)
    ∙ ap (λ (l : Option KindTree). option_and_then held (of_kind is_struct l found)) (sym c.in-Slot.ensures.place.kind)

pub returns-in-Nothing : goal.returns-in-Nothing
returns-in-Nothing c =
    let v = c.args.self.now.view in
    let of = kind_at (schema_of v) (kind_of v) c.args.j in
    let found = part (tree_of v) c.args.j in
    none_wanted is_struct of found (ap (option_and_then held) (sym c.in-Nothing.ensures.place))

-- no element lies there

pub unreachable-requires : goal.unreachable-requires
unreachable-requires c = let no : false ≡ true = c.in-Null.ensures.own in cc

pub unreachable-requires-in-Absent : goal.unreachable-requires-in-Absent
unreachable-requires-in-Absent c = let no : false ≡ true = c.in-Absent.ensures.own in cc

pub unreachable-requires-in-Member : goal.unreachable-requires-in-Member
unreachable-requires-in-Member c = let no : false ≡ true = c.in-Member.ensures.own in cc

pub unreachable-requires-in-List : goal.unreachable-requires-in-List
unreachable-requires-in-List c = let no : false ≡ true = c.in-List.ensures.own in cc
