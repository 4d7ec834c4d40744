use Rattle.std.proofs.Common.{◌∷◌, [], length, sym, ◌∙◌}
use Rattle.std.proofs.lemmas.Result.{err_from_is_err_and}
use Rattle.byte_rules.specs.Lang.{many}
use Rattle.byte_rules.specs.steps.Reading.{with_front}
use Rattle.byte_rules.proofs.Loops.{halts_ok, done_ok, done_err, goes_on, ends}
use Rattle.handle_table.specs.declared.thing.Thing.{Thing}
use Rattle.line_parts.specs.Signs.{letter_d}
use Rattle.history_reader.specs.Whole.{left_line}
use Rattle.line_parts.proofs.ListReads.{no_front, no_front_err}
use Rattle.history_reader.proofs.lines.left_lines.Goals as goal

pub returns-then-is_next : goal.returns-then-is_next
returns-then-is_next c =
    let total = with_front (λ (t : Thing). t ∷ []) [] ((many letter_d left_line).read c.args.bytes.now) in
    sym (no_front ((many letter_d left_line).read c.args.bytes.now))
    ∙ halts_ok (λ (t : Thing). t ∷ []) letter_d left_line c.loop.left.items (length c.args.bytes.now) c.loop.counter c.loop.rest.now c.in_ok-rest.rest.now
    letter_d total (sym c.is_next.ensures ∙ c.if-is_next.true) c.in_ok-rest.ensures c.loop.invariant

pub returns-in_err-thing : goal.returns-in_err-thing
returns-in_err-thing c =
    let total = with_front (λ (t : Thing). t ∷ []) [] ((many letter_d left_line).read c.args.bytes.now) in
    let p = err_from_is_err_and c.from_residual-in_err-thing.result c.from_residual-in_err-thing.ensures.1 in
    rw (p.1, p.2) (no_front_err c.in_err-thing.field-0.0 ((many letter_d left_line).read c.args.bytes.now)
    (ends (λ (t : Thing). t ∷ []) letter_d left_line c.in_err-thing.field-0.0 c.loop.left.items (length c.args.bytes.now) c.loop.counter c.loop.rest.now
    total c.loop-test.true (sym c.is_next.ensures ∙ c.if-is_next.false) c.in_err-thing.ensures c.loop.invariant))

pub loop-preserved : goal.loop-preserved
loop-preserved c =
    let total = with_front (λ (t : Thing). t ∷ []) [] ((many letter_d left_line).read c.args.bytes.now) in
    rw c.in_ok-push.ensures.items
    (goes_on (λ (t : Thing). t ∷ []) letter_d left_line c.loop.left.items (length c.args.bytes.now) c.loop.counter c.loop.rest.now c.in_ok-thing.thing
    c.in_ok-thing.after.now total c.loop-test.true (sym c.is_next.ensures ∙ c.if-is_next.false) c.in_ok-thing.ensures c.loop.invariant)

pub returns-in_err-rest-2 : goal.returns-in_err-rest-2
returns-in_err-rest-2 c =
    let total = with_front (λ (t : Thing). t ∷ []) [] ((many letter_d left_line).read c.args.bytes.now) in
    let p = err_from_is_err_and c.from_residual-in_err-rest-2.result c.from_residual-in_err-rest-2.ensures.1 in
    rw (p.1, p.2) (no_front_err c.in_err-rest-2.field-0.0 ((many letter_d left_line).read c.args.bytes.now)
    (done_err (λ (t : Thing). t ∷ []) letter_d left_line c.in_err-rest-2.field-0.0 c.loop.left.items (length c.args.bytes.now) c.loop.counter
    c.loop.rest.now total c.loop-test.false c.in_err-rest-2.ensures c.loop.invariant))

pub returns : goal.returns
returns c =
    let total = with_front (λ (t : Thing). t ∷ []) [] ((many letter_d left_line).read c.args.bytes.now) in
    sym (no_front ((many letter_d left_line).read c.args.bytes.now))
    ∙ done_ok (λ (t : Thing). t ∷ []) letter_d left_line c.loop.left.items (length c.args.bytes.now) c.loop.counter c.loop.rest.now c.in_ok-rest-2.rest.now
    letter_d total c.loop-test.false c.in_ok-rest-2.ensures c.loop.invariant
