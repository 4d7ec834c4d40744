use Rattle.std.proofs.Common.{Bool, cond, Some, None, ap, ◌∙◌}
use Rattle.std.specs.Prelude.{option_and_then}
use Rattle.mj_schema.specs.KindTrees.{kind_view}
use Rattle.wire_model.specs.Values.{value, slot_value}
use Rattle.wire_view.specs.PartValues.{object_in}
use Rattle.wire_view.specs.Parts.{held, is_array}
use Rattle.wire_view.specs.SortedViews.{array_itself}
use Rattle.wire_view.proofs.KindsOf.{same_object}
use Rattle.wire_view.proofs.SortedViews.{array_plain, wanted_views}
use Rattle.wire_view.proofs.sorted.array_in.Goals as goal

pub returns-then-is_array : goal.returns-then-is_array
returns-then-is_array c =
    let schema = c.args.schema.now in
    let bytes = c.args.bytes.now in
    let k = kind_view c.args.kind.now in
    wanted_views array_itself is_array array_plain schema (Some k) (Some (slot_value (value c.args.left schema bytes) schema bytes c.args.at c.args.bit k))
    c.as_object.result c.array_of.result c.array_of.ensures (c.as_object.ensures.value ∙ ap held c.slot_at.ensures.value)
    (same_object schema (Some k) c.as_object.result (object_in c.slot_at.result) c.as_object.ensures.same c.slot_at.ensures.kind)

pub returns-else-is_array : goal.returns-else-is_array
returns-else-is_array c =
    let schema = c.args.schema.now in
    let bytes = c.args.bytes.now in
    let found = slot_value (value c.args.left schema bytes) schema bytes c.args.at c.args.bit (kind_view c.args.kind.now) in
    ap (λ (b : Bool). option_and_then held (cond b (Some found) None)) c.if-is_array.ensures
