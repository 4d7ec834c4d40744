use Rattle.std.proofs.Common.{◌≡◌, true, false, sym, ap, ◌∙◌}
use Rattle.std.specs.Prelude.{option_and_then}
use Rattle.mj_schema.specs.KindTrees.{kind_view}
use Rattle.wire_view.specs.Parts.{number_of}
use Rattle.wire_view.proofs.SlotKinds.{slot_number}
use Rattle.wire_view.proofs.array_view.ArrayView.element_number.Goals as goal

pub number_at-requires-clause-bit : goal.number_at-requires-clause-bit
number_at-requires-clause-bit c = c.in-Slot.ensures.place.bit_of_byte

pub number_at-requires-clause-within : goal.number_at-requires-clause-within
number_at-requires-clause-within c = c.in-Slot.ensures.place.room

pub returns-in-Slot : goal.returns-in-Slot
returns-in-Slot c =
    let v = c.args.self.now.view in
    c.number_at.ensures
    ∙ slot_number v.schema.now v.bytes.now v.left c.in-Slot.at c.in-Slot.bit (kind_view c.in-Slot.kind.now)
    ∙ ap (option_and_then number_of) (sym c.in-Slot.ensures.place.is)

pub returns-in-Nothing : goal.returns-in-Nothing
returns-in-Nothing c = ap (option_and_then number_of) (sym c.in-Nothing.ensures.place)

-- no element lies there

pub unreachable-requires : goal.unreachable-requires
unreachable-requires c = let no : false ≡ true = c.in-Null.ensures.own in cc

pub unreachable-requires-in-Absent : goal.unreachable-requires-in-Absent
unreachable-requires-in-Absent c = let no : false ≡ true = c.in-Absent.ensures.own in cc

pub unreachable-requires-in-Member : goal.unreachable-requires-in-Member
unreachable-requires-in-Member c = let no : false ≡ true = c.in-Member.ensures.own in cc

pub unreachable-requires-in-List : goal.unreachable-requires-in-List
unreachable-requires-in-List c = let no : false ≡ true = c.in-List.ensures.own in cc
