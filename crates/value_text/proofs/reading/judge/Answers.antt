use Rattle.wire_model.specs.Trees.{view}
use Rattle.value_text.specs.Brackets.{MAX_BRACKETS}
use Rattle.value_text.specs.Rules.{value}
use Rattle.value_text.proofs.Whole.{rest_within, left_within}
use Rattle.value_text.proofs.reading.judge.Goals as goal

pub overflow_sub-at : goal.overflow_sub-at
unfolding value
overflow_sub-at c =
    let read = rw (c.has_flag.ensures, c.node.ensures) at c.in-Ok.ensures in
    rest_within c.args.schema.now MAX_BRACKETS c.args.kind.now c.args.bytes.now c.in-Ok.rest.now (view c.in-Ok.value) read

pub overflow_sub-at-in-Err-Left : goal.overflow_sub-at-in-Err-Left
unfolding value
overflow_sub-at-in-Err-Left c =
    let read = rw (c.in-Err-Left.field-0-is, c.has_flag.ensures, c.node.ensures) at c.in-Err-Left.ensures in
    left_within c.args.schema.now MAX_BRACKETS c.args.kind.now c.args.bytes.now c.in-Err-Left.left read
