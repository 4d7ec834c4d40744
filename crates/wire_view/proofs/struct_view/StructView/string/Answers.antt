use Rattle.std.proofs.Common.{◌≡◌, true, false, sym, ap, ◌∙◌}
use Rattle.std.specs.Prelude.{option_and_then}
use Rattle.wire_view.specs.Parts.{text_of}
use Rattle.wire_view.proofs.SortedViews.{struct_on}
use Rattle.wire_view.proofs.struct_view.StructView.string.Goals as goal

pub field_place-requires : goal.field_place-requires
field_place-requires c = struct_on c.args.self.now.view.on c.args.self.now.stands

pub string_in-requires-clause-bit : goal.string_in-requires-clause-bit
string_in-requires-clause-bit c = c.in-Slot.ensures.place.bit_of_byte

pub string_in-requires-clause-within : goal.string_in-requires-clause-within
string_in-requires-clause-within c = c.in-Slot.ensures.place.room

pub string_in-requires-clause-readable : goal.string_in-requires-clause-readable
string_in-requires-clause-readable c = c.in-Slot.ensures.place.readable

pub returns-in-Slot : goal.returns-in-Slot
returns-in-Slot c = c.string_in.ensures ∙ ap (option_and_then text_of) (sym c.in-Slot.ensures.place.is)

pub absent_string-requires : goal.absent_string-requires
absent_string-requires c = c.in-Absent.ensures.place.text

pub returns-in-Absent : goal.returns-in-Absent
returns-in-Absent c = c.absent_string.ensures ∙ ap (option_and_then text_of) (sym c.in-Absent.ensures.place.is)

pub returns-in-Null : goal.returns-in-Null
returns-in-Null c = ap (option_and_then text_of) (sym c.in-Null.ensures.place)

pub returns-in-Nothing : goal.returns-in-Nothing
returns-in-Nothing c = ap (option_and_then text_of) (sym c.in-Nothing.ensures.place)

-- no field lies there

pub unreachable-requires : goal.unreachable-requires
unreachable-requires c = let no : false ≡ true = c.in-Member.ensures.own in cc

pub unreachable-requires-in-List : goal.unreachable-requires-in-List
unreachable-requires-in-List c = let no : false ≡ true = c.in-List.ensures.own in cc
