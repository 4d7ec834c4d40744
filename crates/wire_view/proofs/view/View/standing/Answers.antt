use Rattle.std.proofs.Common.{length}
use Rattle.wire_model.specs.Marks.{visit, object_marks}
use Rattle.wire_view.specs.Ons.{on_kind}
use Rattle.wire_view.proofs.Readable.{from_readable}
use Rattle.wire_view.proofs.view.View.standing.Goals as goal

pub invariant_of-result : goal.invariant_of-result
invariant_of-result c =
    let schema = c.args.schema.now in
    let bytes = c.args.bytes.now in
    record {
      readable = from_readable (length bytes) (object_marks (visit c.args.left schema bytes) schema bytes c.args.at (on_kind c.args.on)) c.requires.readable;
      whole = c.requires.whole;
      kept = c.requires.row;
      counted = c.requires.version;
    }
