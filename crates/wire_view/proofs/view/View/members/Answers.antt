use Rattle.std.specs.Prelude.{slice_get}
use Rattle.wire_model.specs.Values.{value}
use Rattle.wire_view.proofs.Members.{one_member, no_member}
use Rattle.wire_view.proofs.view.View.members.Goals as goal

pub returns-in-Some : goal.returns-in-Some
returns-in-Some c =
    let v = c.args.self.now in
    one_member (value v.left v.schema.now v.bytes.now) v.bytes.now v.at (slice_get v.schema.now.unions c.args.number) c.in-Some.field-0.now
    (rw c.le32.ensures at c.in-Some.ensures)

pub returns-in-None : goal.returns-in-None
returns-in-None c =
    let v = c.args.self.now in
    no_member (value v.left v.schema.now v.bytes.now) v.bytes.now v.at (slice_get v.schema.now.unions c.args.number) (rw c.le32.ensures at c.in-None.ensures)
