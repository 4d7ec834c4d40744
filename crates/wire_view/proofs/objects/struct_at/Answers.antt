use Rattle.std.proofs.Common.{false, refl}
use Rattle.mj_schema.specs.KindTrees.{StructKind}
use Rattle.wire_model.specs.Values.{value}
use Rattle.wire_view.proofs.KindsOf.{stands}
use Rattle.wire_view.proofs.Targets.{no_struct}
use Rattle.wire_view.proofs.objects.struct_at.Goals as goal

pub returns-in-None-clause-value : goal.returns-in-None-clause-value
returns-in-None-clause-value c =
    no_struct (value c.args.left c.args.schema.now c.args.bytes.now) c.args.schema.now c.args.bytes.now c.args.at c.args.number c.in-None.ensures.found

pub returns-in-Some-clause-kind : goal.returns-in-Some-clause-kind
returns-in-Some-clause-kind c =
    stands c.args.schema.now (StructKind c.args.number false) c.of_struct.result c.of_struct.ensures.schema c.of_struct.ensures.kind refl
