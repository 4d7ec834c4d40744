use Rattle.std.proofs.Common.{None, false, refl}
use Rattle.mj_schema.specs.KindTrees.{ArrayKind, kind_view}
use Rattle.wire_model.specs.Values.{value}
use Rattle.wire_view.proofs.KindsOf.{stands}
use Rattle.wire_view.proofs.Targets.{array_whole}
use Rattle.wire_view.proofs.objects.array_at.Goals as goal

pub standing-requires-clause-whole : goal.standing-requires-clause-whole
standing-requires-clause-whole c =
    array_whole (value c.args.left c.args.schema.now c.args.bytes.now) c.args.schema.now c.args.bytes.now c.args.at (kind_view c.args.of.now)

pub returns-clause-kind : goal.returns-clause-kind
returns-clause-kind c =
    stands c.args.schema.now (ArrayKind (kind_view c.args.of.now) None false) c.standing.result c.standing.ensures.schema c.standing.ensures.kind refl
