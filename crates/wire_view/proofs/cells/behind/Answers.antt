use Rattle.std.proofs.Common.{◌-◌, length, sym, ◌∙◌}
use Rattle.mj_base.specs.Bytes.{number64}
use Rattle.mj_schema.specs.KindTrees.{kind_view}
use Rattle.readable_marks.proofs.Reading.{readable_behind, value_behind, not_zero, one_less}
use Rattle.wire_view.proofs.cells.behind.Goals as goal

pub object_at-requires : goal.object_at-requires
object_at-requires c =
    let bytes = c.args.bytes.now in
    let some = not_zero c.le64-pointer.result (number64 bytes c.args.at) c.le64-pointer.ensures c.if-pointer-eq0-2.false in
    let level = one_less c.args.left c.if-left-eq0.false in
    let behind = readable_behind (length bytes) c.args.left (c.args.left - 1) c.args.schema.now bytes c.args.at (kind_view c.args.kind.now) c.args.nullable
    level
    some c.requires.readable in
    rw c.le64-pointer.ensures behind.1

pub returns-clause-value : goal.returns-clause-value
returns-clause-value c =
    let bytes = c.args.bytes.now in
    let some = not_zero c.le64-pointer.result (number64 bytes c.args.at) c.le64-pointer.ensures c.if-pointer-eq0-2.false in
    let level = one_less c.args.left c.if-left-eq0.false in
    let object = rw c.le64-pointer.ensures at c.object_at.ensures.value in
    object ∙ sym (value_behind c.args.left (c.args.left - 1) c.args.schema.now bytes c.args.at (kind_view c.args.kind.now) level some)
