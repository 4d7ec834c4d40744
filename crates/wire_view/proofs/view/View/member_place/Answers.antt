use Rattle.std.proofs.Common.{length, sym, ap, ◌∙◌, arith}
use Rattle.std.specs.Prelude.{slice_get}
use Rattle.wire_model.specs.Marks.{visit}
use Rattle.wire_model.specs.Rows.{kind_in}
use Rattle.wire_model.specs.Values.{value}
use Rattle.wire_view.proofs.Members.{member_found, other_member, unknown_member, member_readable, cell_fits}
use Rattle.wire_view.proofs.view.View.member_place.Goals as goal

pub returns-else-tag-i : goal.returns-else-tag-i
returns-else-tag-i c =
    let v = c.args.self.now in
    other_member (value v.left v.schema.now v.bytes.now) v.bytes.now v.at (slice_get v.schema.now.unions c.args.number) c.args.i
    (λ e. c.if-tag-i.false (c.le32-tag.ensures ∙ e))

pub returns-in-Some : goal.returns-in-Some
returns-in-Some c =
    let v = c.args.self.now in
    let row = slice_get v.schema.now.unions c.args.number in
    let k = c.in-Some.kind.now in
    let is = rw c.le32-tag.ensures at c.in-Some.ensures in
    let same = sym c.le32-tag.ensures ∙ c.if-tag-i.true in
    rw c.node.ensures (record {
      room = omega (arith, cell_fits k, c.requires.within);
      readable = member_readable (length v.bytes.now) (visit v.left v.schema.now v.bytes.now) v.schema.now v.bytes.now v.at row k is c.requires.readable;
      is = member_found (value v.left v.schema.now v.bytes.now) v.bytes.now v.at row c.args.i k same is;
      kind = ap (kind_in row) (sym same) ∙ sym is;
    })

pub returns-in-None : goal.returns-in-None
returns-in-None c =
    let v = c.args.self.now in
    unknown_member (value v.left v.schema.now v.bytes.now) v.bytes.now v.at (slice_get v.schema.now.unions c.args.number) c.args.i
    (rw c.le32-tag.ensures at c.in-None.ensures)
