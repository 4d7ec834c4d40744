use Rattle.std.proofs.Common.{sym, ap, ◌∙◌}
use Rattle.std.specs.Prelude.{option_and_then}
use Rattle.mj_schema.specs.KindTrees.{kind_view}
use Rattle.wire_view.specs.Parts.{number_of}
use Rattle.wire_view.proofs.SlotKinds.{slot_number}
use Rattle.wire_view.proofs.view.View.number.Goals as goal

pub returns-in-Slot : goal.returns-in-Slot
returns-in-Slot c =
    let v = c.args.self.now in
    c.number_at.ensures
    ∙ slot_number v.schema.now v.bytes.now v.left c.in-Slot.at c.in-Slot.bit (kind_view c.in-Slot.kind.now)
    ∙ ap (option_and_then number_of) (sym c.in-Slot.ensures.is)

pub returns-in-Member : goal.returns-in-Member
returns-in-Member c = c.as_number.ensures ∙ ap number_of c.cell_at.ensures.value ∙ ap (option_and_then number_of) (sym c.in-Member.ensures.is)

pub returns-in-List : goal.returns-in-List
returns-in-List c = c.as_number-in-List.ensures ∙ ap number_of c.list_at.ensures.value ∙ ap (option_and_then number_of) (sym c.in-List.ensures.is)

pub returns-in-Absent : goal.returns-in-Absent
returns-in-Absent c = c.absent_number.ensures ∙ ap (option_and_then number_of) (sym c.in-Absent.ensures.is)

pub returns-in-Null : goal.returns-in-Null
returns-in-Null c = ap (option_and_then number_of) (sym c.in-Null.ensures)

pub returns-in-Nothing : goal.returns-in-Nothing
returns-in-Nothing c = ap (option_and_then number_of) (sym c.in-Nothing.ensures)
