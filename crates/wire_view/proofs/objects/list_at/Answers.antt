use Rattle.std.proofs.Common.{◌-◌, None, false, length, sym, ◌∙◌}
use Rattle.mj_base.specs.Bytes.{number64}
use Rattle.mj_schema.specs.KindTrees.{ArrayKind, kind_view}
use Rattle.readable_marks.proofs.Reading.{readable_behind, value_behind, not_zero, one_less}
use Rattle.wire_view.proofs.objects.list_at.Goals as goal

pub array_at-requires : goal.array_at-requires
array_at-requires c =
    let bytes = c.args.bytes.now in
    let some = not_zero c.le64-pointer.result (number64 bytes c.args.at) c.le64-pointer.ensures c.if-pointer-eq0.false in
    let level = one_less c.args.left c.if-left-eq0.false in
    let k = ArrayKind (kind_view c.args.of.now) None false in
    let behind = readable_behind (length bytes) c.args.left (c.args.left - 1) c.args.schema.now bytes c.args.at k false level some c.requires.readable in
    rw c.le64-pointer.ensures behind.1

pub returns-clause-value : goal.returns-clause-value
returns-clause-value c =
    let bytes = c.args.bytes.now in
    let some = not_zero c.le64-pointer.result (number64 bytes c.args.at) c.le64-pointer.ensures c.if-pointer-eq0.false in
    let level = one_less c.args.left c.if-left-eq0.false in
    let array = rw c.le64-pointer.ensures at c.array_at.ensures.value in
    array ∙ sym (value_behind c.args.left (c.args.left - 1) c.args.schema.now bytes c.args.at (ArrayKind (kind_view c.args.of.now) None false) level some)
