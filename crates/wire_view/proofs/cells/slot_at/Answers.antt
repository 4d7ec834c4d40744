use Rattle.std.proofs.Common.{false, length, sym, ap, ◌∙◌}
use Rattle.mj_schema.specs.KindTrees.{UnionKind, kind_view}
use Rattle.wire_model.specs.Marks.{visit}
use Rattle.wire_model.specs.Values.{value}
use Rattle.wire_view.specs.PartValues.{object_in}
use Rattle.wire_view.specs.Parts.{plain}
use Rattle.wire_view.proofs.KindsOf.{like_part}
use Rattle.wire_view.proofs.Targets.{inline_union, slot_union}
use Rattle.wire_view.proofs.cells.slot_at.Goals as goal

pub inline_at-requires-clause-readable : goal.inline_at-requires-clause-readable
inline_at-requires-clause-readable c =
    let bytes = c.args.bytes.now in
    inline_union (length bytes) (visit c.args.left c.args.schema.now bytes) c.args.schema.now bytes c.args.at (kind_view c.args.kind.now) c.in-Union.number
    c.in-Union.nullable (ap kind_view c.in-Union.is) c.requires.readable

pub returns-in-Union-clause-value : goal.returns-in-Union-clause-value
returns-in-Union-clause-value c =
    let bytes = c.args.bytes.now in
    c.inline_at.ensures.value
    ∙ slot_union (value c.args.left c.args.schema.now bytes) c.args.schema.now bytes c.args.at (kind_view c.args.kind.now) c.args.bit c.in-Union.number
    c.in-Union.nullable (ap kind_view c.in-Union.is)

pub returns-in-Union-clause-kind : goal.returns-in-Union-clause-kind
returns-in-Union-clause-kind c =
    like_part c.args.schema.now (UnionKind c.in-Union.number false) (kind_view c.args.kind.now) (object_in c.inline_at.result)
    (sym (ap plain (ap kind_view c.in-Union.is))) c.inline_at.ensures.kind
