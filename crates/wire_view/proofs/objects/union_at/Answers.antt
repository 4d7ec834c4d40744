use Rattle.std.proofs.Common.{false, length, refl, ap, ◌∙◌}
use Rattle.mj_schema.specs.KindTrees.{UnionKind}
use Rattle.wire_model.specs.Marks.{visit}
use Rattle.wire_model.specs.Values.{value, found_union_value}
use Rattle.wire_view.proofs.KindsOf.{stands}
use Rattle.wire_view.proofs.Targets.{union_found, union_whole, union_stands}
use Rattle.wire_view.proofs.objects.union_at.Goals as goal

pub standing-requires-clause-readable : goal.standing-requires-clause-readable
standing-requires-clause-readable c =
    union_stands c.args.schema.now c.args.bytes.now c.args.at c.args.number c.requires.some (length c.args.bytes.now)
    (visit c.args.left c.args.schema.now c.args.bytes.now) c.requires.within c.requires.readable

pub standing-requires-clause-whole : goal.standing-requires-clause-whole
standing-requires-clause-whole c =
    union_whole c.args.schema.now c.args.bytes.now c.args.at c.args.number c.requires.some (value c.args.left c.args.schema.now c.args.bytes.now)
    c.in-Some.field-0.now c.in-Some.ensures

pub returns-in-Some-clause-value : goal.returns-in-Some-clause-value
returns-in-Some-clause-value c =
    c.standing.ensures.value
    ∙ union_found c.args.schema.now c.args.bytes.now c.args.at c.args.number c.requires.some (value c.args.left c.args.schema.now c.args.bytes.now)

pub returns-in-None-clause-value : goal.returns-in-None-clause-value
returns-in-None-clause-value c = ap (found_union_value (value c.args.left c.args.schema.now c.args.bytes.now) c.args.bytes.now c.args.at) c.in-None.ensures

pub returns-in-Some-clause-kind : goal.returns-in-Some-clause-kind
returns-in-Some-clause-kind c =
    stands c.args.schema.now (UnionKind c.args.number false) c.standing.result c.standing.ensures.schema c.standing.ensures.kind refl
