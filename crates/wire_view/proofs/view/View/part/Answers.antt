use Rattle.std.proofs.Common.{Some, None, false, sym, ap, ◌∙◌}
use Rattle.mj_schema.specs.KindTrees.{ArrayKind, kind_view}
use Rattle.wire_model.specs.Trees.{Tree}
use Rattle.wire_view.specs.PartValues.{object_in}
use Rattle.wire_view.specs.Parts.{kind_at}
use Rattle.wire_view.specs.Views.{kind_of, schema_of}
use Rattle.wire_view.proofs.KindsOf.{there, no_object}
use Rattle.wire_view.proofs.view.View.part.Goals as goal

pub returns-in-Nothing-clause-value : goal.returns-in-Nothing-clause-value
returns-in-Nothing-clause-value c = sym c.in-Nothing.ensures

pub returns-in-Null-clause-value : goal.returns-in-Null-clause-value
returns-in-Null-clause-value c = sym c.in-Null.ensures

pub returns-in-Absent-clause-value : goal.returns-in-Absent-clause-value
returns-in-Absent-clause-value c = ap (λ (t : Tree). Some t) c.absent_field.ensures.value ∙ sym c.in-Absent.ensures.is

pub returns-in-Slot-clause-value : goal.returns-in-Slot-clause-value
returns-in-Slot-clause-value c = ap (λ (t : Tree). Some t) c.slot_at.ensures.value ∙ sym c.in-Slot.ensures.is

pub returns-in-Member-clause-value : goal.returns-in-Member-clause-value
returns-in-Member-clause-value c = ap (λ (t : Tree). Some t) c.cell_at.ensures.value ∙ sym c.in-Member.ensures.is

pub returns-in-List-clause-value : goal.returns-in-List-clause-value
returns-in-List-clause-value c = ap (λ (t : Tree). Some t) c.list_at.ensures.value ∙ sym c.in-List.ensures.is

pub returns-in-Absent-clause-kind : goal.returns-in-Absent-clause-kind
returns-in-Absent-clause-kind c =
    let v = c.args.self.now in
    no_object (schema_of v) (kind_at (schema_of v) (kind_of v) c.args.i) (object_in c.absent_field.result) c.absent_field.ensures.leaf

pub returns-in-Slot-clause-kind : goal.returns-in-Slot-clause-kind
returns-in-Slot-clause-kind c =
    let v = c.args.self.now in
    there (schema_of v) (kind_at (schema_of v) (kind_of v) c.args.i) (kind_view c.in-Slot.kind.now) (object_in c.slot_at.result) c.in-Slot.ensures.kind
    c.slot_at.ensures.kind

pub returns-in-Member-clause-kind : goal.returns-in-Member-clause-kind
returns-in-Member-clause-kind c =
    let v = c.args.self.now in
    there (schema_of v) (kind_at (schema_of v) (kind_of v) c.args.i) (kind_view c.in-Member.kind.now) (object_in c.cell_at.result) c.in-Member.ensures.kind
    c.cell_at.ensures.kind

pub returns-in-List-clause-kind : goal.returns-in-List-clause-kind
returns-in-List-clause-kind c =
    let v = c.args.self.now in
    there (schema_of v) (kind_at (schema_of v) (kind_of v) c.args.i) (ArrayKind (kind_view c.in-List.of.now) None false) (Some c.list_at.result)
    c.in-List.ensures.kind
    c.list_at.ensures.kind
