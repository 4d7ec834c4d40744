use Rattle.std.proofs.Common.{false, refl}
use Rattle.mj_schema.specs.KindTrees.{MapKind, kind_view}
use Rattle.wire_model.specs.Values.{value}
use Rattle.wire_view.proofs.KindsOf.{stands}
use Rattle.wire_view.proofs.Targets.{map_whole}
use Rattle.wire_view.proofs.objects.map_at.Goals as goal

pub standing-requires-clause-whole : goal.standing-requires-clause-whole
standing-requires-clause-whole c =
    map_whole (value c.args.left c.args.schema.now c.args.bytes.now) c.args.schema.now c.args.bytes.now c.args.at (kind_view c.args.key.now)
    (kind_view c.args.one.now)

pub returns-clause-kind : goal.returns-clause-kind
returns-clause-kind c =
    stands c.args.schema.now (MapKind (kind_view c.args.key.now) (kind_view c.args.one.now) false) c.standing.result c.standing.ensures.schema
    c.standing.ensures.kind refl
