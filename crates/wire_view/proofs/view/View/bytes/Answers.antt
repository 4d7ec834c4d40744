use Rattle.std.proofs.Common.{None, false, length, ◌∙◌}
use Rattle.mj_schema.specs.KindTrees.{ArrayKind, kind_view}
use Rattle.wire_model.specs.Values.{value, slot_value, cell_value, pointer_value}
use Rattle.wire_view.specs.Ons.{on_kind}
use Rattle.wire_view.specs.Parts.{kind_at, part}
use Rattle.wire_view.specs.Views.{tree_of}
use Rattle.wire_view.specs.steps.Lists.{bytes_behind}
use Rattle.wire_view.proofs.Bytes.{slot_bytes, cell_bytes, list_bytes, slot_room, cell_room, part_bytes, nothing_bytes, null_part_bytes, absent_part_bytes}
use Rattle.wire_view.proofs.view.View.bytes.Goals as goal

-- in a slot

pub slot_bytes-requires : goal.slot_bytes-requires
slot_bytes-requires c =
    let v = c.args.self.now in
    let slot = c.in-Slot.ensures in
    let k = kind_view c.in-Slot.kind.now in
    λ yes. (
      slot_room k c.in-Slot.at (length v.bytes.now) slot.room yes,
      (slot_bytes v.left v.schema.now v.bytes.now c.in-Slot.at c.in-Slot.bit k slot.readable yes).0,
    )

pub returns-in-Slot : goal.returns-in-Slot
returns-in-Slot c =
    let v = c.args.self.now in
    let slot = c.in-Slot.ensures in
    let k = kind_view c.in-Slot.kind.now in
    c.slot_bytes.ensures
    ∙ part_bytes (kind_at v.schema.now (on_kind v.on) c.args.i) k (part (tree_of v) c.args.i)
    (slot_value (value v.left v.schema.now v.bytes.now) v.schema.now v.bytes.now c.in-Slot.at c.in-Slot.bit k) (bytes_behind v.bytes.now c.in-Slot.at)
    slot.kind slot.is
    (λ yes. (slot_bytes v.left v.schema.now v.bytes.now c.in-Slot.at c.in-Slot.bit k slot.readable yes).1)

-- in a union

pub slot_bytes-requires-in-Member : goal.slot_bytes-requires-in-Member
slot_bytes-requires-in-Member c =
    let v = c.args.self.now in
    let member = c.in-Member.ensures in
    let k = kind_view c.in-Member.kind.now in
    λ yes. (
      cell_room k c.in-Member.at (length v.bytes.now) member.room yes,
      (cell_bytes v.left v.schema.now v.bytes.now c.in-Member.at 0 k member.readable yes).0,
    )

pub returns-in-Member : goal.returns-in-Member
returns-in-Member c =
    let v = c.args.self.now in
    let member = c.in-Member.ensures in
    let k = kind_view c.in-Member.kind.now in
    c.slot_bytes-in-Member.ensures
    ∙ part_bytes (kind_at v.schema.now (on_kind v.on) c.args.i) k (part (tree_of v) c.args.i)
    (cell_value (value v.left v.schema.now v.bytes.now) v.bytes.now c.in-Member.at 0 k) (bytes_behind v.bytes.now c.in-Member.at) member.kind member.is
    (λ yes. (cell_bytes v.left v.schema.now v.bytes.now c.in-Member.at 0 k member.readable yes).1)

-- of a map

pub list_bytes-requires : goal.list_bytes-requires
list_bytes-requires c =
    let v = c.args.self.now in
    let list = c.in-List.ensures in
    λ yes. (list.room, (list_bytes v.left v.schema.now v.bytes.now c.in-List.at (kind_view c.in-List.of.now) list.readable yes).0)

pub returns-in-List : goal.returns-in-List
returns-in-List c =
    let v = c.args.self.now in
    let list = c.in-List.ensures in
    let k = ArrayKind (kind_view c.in-List.of.now) None false in
    c.list_bytes.ensures
    ∙ part_bytes (kind_at v.schema.now (on_kind v.on) c.args.i) k (part (tree_of v) c.args.i)
    (pointer_value (value v.left v.schema.now v.bytes.now) v.bytes.now c.in-List.at k) (bytes_behind v.bytes.now c.in-List.at) list.kind list.is
    (λ yes. (list_bytes v.left v.schema.now v.bytes.now c.in-List.at (kind_view c.in-List.of.now) list.readable yes).1)

-- nowhere

pub returns-in-Nothing : goal.returns-in-Nothing
returns-in-Nothing c =
    let v = c.args.self.now in
    nothing_bytes (kind_at v.schema.now (on_kind v.on) c.args.i) (part (tree_of v) c.args.i) c.in-Nothing.ensures

pub returns-in-Null : goal.returns-in-Null
returns-in-Null c =
    let v = c.args.self.now in
    null_part_bytes (kind_at v.schema.now (on_kind v.on) c.args.i) (part (tree_of v) c.args.i) c.in-Null.ensures

pub returns-in-Absent : goal.returns-in-Absent
returns-in-Absent c =
    let v = c.args.self.now in
    let field = c.in-Absent.field-0.now in
    absent_part_bytes (kind_at v.schema.now (on_kind v.on) c.args.i) (part (tree_of v) c.args.i) v.schema.now field.default field.kind c.in-Absent.ensures.is
