use Rattle.std.proofs.Common.{Some, None, false, sym, ap, ◌∙◌}
use Rattle.std.specs.Prelude.{option_and_then}
use Rattle.mj_schema.specs.KindTrees.{ArrayKind, kind_view}
use Rattle.wire_view.specs.PartValues.{object_in}
use Rattle.wire_view.specs.Parts.{held, kind_at}
use Rattle.wire_view.specs.Views.{kind_of, schema_of}
use Rattle.wire_view.proofs.AbsentFacts.{absent_held}
use Rattle.wire_view.proofs.KindsOf.{there, same_object}
use Rattle.wire_view.proofs.ObjectFacts.{is_held}
use Rattle.wire_view.proofs.view.View.child.Goals as goal

-- in a slot

pub returns-in-Slot-clause-value : goal.returns-in-Slot-clause-value
returns-in-Slot-clause-value c = c.as_object.ensures.value ∙ ap held c.slot_at.ensures.value ∙ ap (option_and_then held) (sym c.in-Slot.ensures.is)

pub returns-in-Slot-clause-kind : goal.returns-in-Slot-clause-kind
returns-in-Slot-clause-kind c =
    let v = c.args.self.now in
    same_object (schema_of v) (kind_at (schema_of v) (kind_of v) c.args.i) c.as_object.result (object_in c.slot_at.result) c.as_object.ensures.same
    (there (schema_of v) (kind_at (schema_of v) (kind_of v) c.args.i) (kind_view c.in-Slot.kind.now) (object_in c.slot_at.result) c.in-Slot.ensures.kind
    c.slot_at.ensures.kind)

-- in a union

pub returns-in-Member-clause-value : goal.returns-in-Member-clause-value
returns-in-Member-clause-value c =
    c.as_object-in-Member.ensures.value ∙ ap held c.cell_at.ensures.value ∙ ap (option_and_then held) (sym c.in-Member.ensures.is)

pub returns-in-Member-clause-kind : goal.returns-in-Member-clause-kind
returns-in-Member-clause-kind c =
    let v = c.args.self.now in
    same_object (schema_of v) (kind_at (schema_of v) (kind_of v) c.args.i) c.as_object-in-Member.result (object_in c.cell_at.result)
    c.as_object-in-Member.ensures.same
    (there (schema_of v) (kind_at (schema_of v) (kind_of v) c.args.i) (kind_view c.in-Member.kind.now) (object_in c.cell_at.result)
    c.in-Member.ensures.kind
    c.cell_at.ensures.kind)

-- of a map

pub returns-in-List-clause-value : goal.returns-in-List-clause-value
returns-in-List-clause-value c =
    is_held c.list_at.result ∙ ap held c.list_at.ensures.value ∙ ap (option_and_then held) (sym c.in-List.ensures.is)

pub returns-in-List-clause-kind : goal.returns-in-List-clause-kind
returns-in-List-clause-kind c =
    let v = c.args.self.now in
    there (schema_of v) (kind_at (schema_of v) (kind_of v) c.args.i) (ArrayKind (kind_view c.in-List.of.now) None false) (Some c.list_at.result)
    c.in-List.ensures.kind
    c.list_at.ensures.kind

-- nowhere

pub returns-in-Absent-clause-value : goal.returns-in-Absent-clause-value
returns-in-Absent-clause-value c =
    let field = c.in-Absent.field-0.now in
    absent_held c.args.self.now.schema.now field.default field.kind ∙ ap (option_and_then held) (sym c.in-Absent.ensures.is)

pub returns-in-Null-clause-value : goal.returns-in-Null-clause-value
returns-in-Null-clause-value c = ap (option_and_then held) (sym c.in-Null.ensures)

pub returns-in-Nothing-clause-value : goal.returns-in-Nothing-clause-value
returns-in-Nothing-clause-value c = ap (option_and_then held) (sym c.in-Nothing.ensures)
