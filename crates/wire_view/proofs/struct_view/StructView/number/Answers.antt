use Rattle.std.proofs.Common.{◌≡◌, true, false, sym, ap, ◌∙◌}
use Rattle.std.specs.Prelude.{option_and_then}
use Rattle.mj_schema.specs.KindTrees.{kind_view}
use Rattle.wire_view.specs.Parts.{number_of}
use Rattle.wire_view.proofs.SlotKinds.{slot_number}
use Rattle.wire_view.proofs.SortedViews.{struct_on}
use Rattle.wire_view.proofs.struct_view.StructView.number.Goals as goal

pub field_place-requires : goal.field_place-requires
field_place-requires c = struct_on c.args.self.now.view.on c.args.self.now.stands

pub number_at-requires-clause-bit : goal.number_at-requires-clause-bit
number_at-requires-clause-bit c = c.in-Slot.ensures.place.bit_of_byte

pub number_at-requires-clause-within : goal.number_at-requires-clause-within
number_at-requires-clause-within c = c.in-Slot.ensures.place.room

pub returns-in-Slot : goal.returns-in-Slot
returns-in-Slot c =
    let v = c.args.self.now.view in
    c.number_at.ensures
    ∙ slot_number v.schema.now v.bytes.now v.left c.in-Slot.at c.in-Slot.bit (kind_view c.in-Slot.kind.now)
    ∙ ap (option_and_then number_of) (sym c.in-Slot.ensures.place.is)

pub absent_number-requires : goal.absent_number-requires
absent_number-requires c = c.in-Absent.ensures.place.text

pub returns-in-Absent : goal.returns-in-Absent
returns-in-Absent c = c.absent_number.ensures ∙ ap (option_and_then number_of) (sym c.in-Absent.ensures.place.is)

pub returns-in-Null : goal.returns-in-Null
returns-in-Null c = ap (option_and_then number_of) (sym c.in-Null.ensures.place)

pub returns-in-Nothing : goal.returns-in-Nothing
returns-in-Nothing c = ap (option_and_then number_of) (sym c.in-Nothing.ensures.place)

-- no field lies there

pub unreachable-requires : goal.unreachable-requires
unreachable-requires c = let no : false ≡ true = c.in-Member.ensures.own in cc

pub unreachable-requires-in-List : goal.unreachable-requires-in-List
unreachable-requires-in-List c = let no : false ≡ true = c.in-List.ensures.own in cc
