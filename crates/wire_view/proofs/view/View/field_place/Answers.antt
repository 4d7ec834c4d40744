use Rattle.std.proofs.Common.{sym, arith}
use Rattle.mj_schema.specs.KindTrees.{kind_view}
use Rattle.wire_view.proofs.FieldParts.{ends_in, slot_is, null_is, absent_is, nothing_is}
use Rattle.wire_view.proofs.Fields.{facts}
use Rattle.wire_view.proofs.Kept.{the_row, row_stands}
use Rattle.wire_view.proofs.view.View.field_place.Goals as goal

pub overflow_add-base : goal.overflow_add-base
overflow_add-base c =
    let v = c.args.self.now in
    let r = facts v.left v.schema.now v.bytes.now v.at (the_row v c.requires.0 c.requires.1) (row_stands v c.requires.0 c.requires.1) in
    omega (arith, r.header, r.ends)

pub has_value-requires-clause-bit : goal.has_value-requires-clause-bit
has_value-requires-clause-bit c =
    (ends_in c.args.self.now c.requires.0 c.requires.1 c.args.i c.in-Some.field.now c.in-Some.ensures c.if-i-known.true).flag_bit

pub has_value-requires-clause-within : goal.has_value-requires-clause-within
has_value-requires-clause-within c =
    (ends_in c.args.self.now c.requires.0 c.requires.1 c.args.i c.in-Some.field.now c.in-Some.ensures c.if-i-known.true).flag_room

pub overflow_add-result : goal.overflow_add-result
overflow_add-result c =
    let room = (ends_in c.args.self.now c.requires.0 c.requires.1 c.args.i c.in-Some.field.now c.in-Some.ensures c.if-i-known.true).room in
    omega (arith, room, c.from.ensures)

pub returns-then-has_value-clause-place : goal.returns-then-has_value-clause-place
returns-then-has_value-clause-place c =
    rw c.from.ensures
    (slot_is c.args.self.now c.requires.0 c.requires.1 c.args.i c.in-Some.field.now (kind_view c.node.result.now) c.in-Some.ensures c.if-i-known.true
    (sym c.if-has_value.ensures) c.node.ensures)

pub returns-else-has_value-clause-place : goal.returns-else-has_value-clause-place
returns-else-has_value-clause-place c =
    null_is c.args.self.now c.requires.0 c.requires.1 c.args.i c.in-Some.field.now c.in-Some.ensures c.if-i-known.true (sym c.if-has_value.ensures)

pub returns-else-i-known-clause-place : goal.returns-else-i-known-clause-place
returns-else-i-known-clause-place c =
    absent_is c.args.self.now c.requires.0 c.requires.1 c.args.i c.in-Some.field.now c.in-Some.ensures c.if-i-known.false

pub returns-in-None-clause-place : goal.returns-in-None-clause-place
returns-in-None-clause-place c = nothing_is c.args.self.now c.requires.0 c.requires.1 c.args.i c.in-None.ensures
