use Rattle.std.proofs.Common.{take}
use Rattle.std.proofs.lemmas.Result.{err_from_is_err_and}
use Rattle.wire_model.specs.Trees.{view}
use Rattle.value_text.specs.Brackets.{MAX_BRACKETS}
use Rattle.value_text.specs.Rules.{value}
use Rattle.line_parts.specs.Signs.{blank}
use Rattle.line_parts.proofs.BlankReads as reads
use Rattle.line_parts.proofs.messages.value_and_blank.Goals as goal

pub returns-in_err-after : goal.returns-in_err-after
returns-in_err-after c =
    let here = value c.args.schema.now MAX_BRACKETS c.args.kind.now in
    let at = c.in-Err-BadText.at in
    let bad = reads.refused here c.args.bytes.now c.in-Err-BadText.field-0 at c.in-Err-BadText.field-0-is c.in-Err-BadText.ensures in
    let p = err_from_is_err_and c.from_residual.result c.from_residual.ensures.1 in
    rw (p.1, p.2) (reads.other c.args.schema.now c.args.kind.now c.args.bytes.now at c.in_err-after.field-0.0 bad c.in_err-after.ensures)

pub returns-in-Ok-read_value : goal.returns-in-Ok-read_value
returns-in-Ok-read_value c =
    reads.whole c.args.schema.now c.args.kind.now c.args.bytes.now c.in_ok-after.after.now c.in-Err-BadText.at blank (view c.in-Ok-read_value.value)
    c.in_ok-after.ensures c.in-Ok-read_value.ensures.0

pub returns-in-Err-BadText-read_value : goal.returns-in-Err-BadText-read_value
returns-in-Err-BadText-read_value c =
    let here = value c.args.schema.now MAX_BRACKETS c.args.kind.now in
    let at = c.in-Err-BadText.at in
    let bad = reads.refused here c.args.bytes.now c.in-Err-BadText.field-0 at c.in-Err-BadText.field-0-is c.in-Err-BadText.ensures in
    let second = c.in-Err-BadText-read_value in
    reads.none c.args.schema.now c.args.kind.now c.args.bytes.now at second.field-0-0 bad
    (reads.refused here (take at c.args.bytes.now) second.field-0 second.field-0-0 second.field-0-is second.ensures)
