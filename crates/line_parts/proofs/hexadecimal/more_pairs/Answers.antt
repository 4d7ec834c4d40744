use Rattle.std.proofs.Common.{◌∷◌, [], length, sym, ◌∙◌, ℕ}
use Rattle.std.proofs.lemmas.Result.{err_from_is_err_and}
use Rattle.byte_rules.specs.Lang.{many}
use Rattle.byte_rules.specs.steps.Reading.{with_front}
use Rattle.byte_rules.proofs.Loops.{halts_ok, done_ok, done_err, goes_on, ends}
use Rattle.line_parts.specs.Lists.{pair}
use Rattle.line_parts.proofs.hexadecimal.more_pairs.Goals as goal

pub returns-then-is_next : goal.returns-then-is_next
returns-then-is_next c =
    let total = with_front (λ (t : ℕ). t ∷ []) c.args.items.items ((many c.args.last pair).read c.args.bytes.now) in
    halts_ok (λ (t : ℕ). t ∷ []) c.args.last pair c.loop.items.items
    (length c.args.bytes.now) c.loop.counter c.loop.rest.now c.in_ok-rest.rest.now c.args.last total
    (sym c.is_next.ensures ∙ c.if-is_next.true) c.in_ok-rest.ensures c.loop.invariant

pub returns-in_err-item : goal.returns-in_err-item
returns-in_err-item c =
    let total = with_front (λ (t : ℕ). t ∷ []) c.args.items.items ((many c.args.last pair).read c.args.bytes.now) in
    let p = err_from_is_err_and c.from_residual-in_err-item.result c.from_residual-in_err-item.ensures.1 in
    rw (p.1, p.2) (ends (λ (t : ℕ). t ∷ []) c.args.last pair c.in_err-item.field-0.0 c.loop.items.items (length c.args.bytes.now) c.loop.counter c.loop.rest.now
    total c.loop-test.true (sym c.is_next.ensures ∙ c.if-is_next.false) c.in_err-item.ensures c.loop.invariant)

pub loop-preserved : goal.loop-preserved
loop-preserved c =
    let total = with_front (λ (t : ℕ). t ∷ []) c.args.items.items ((many c.args.last pair).read c.args.bytes.now) in
    rw c.in_ok-push.ensures.items
    (goes_on (λ (t : ℕ). t ∷ []) c.args.last pair c.loop.items.items (length c.args.bytes.now) c.loop.counter c.loop.rest.now c.in_ok-item.item
    c.in_ok-item.after.now total c.loop-test.true (sym c.is_next.ensures ∙ c.if-is_next.false) c.in_ok-item.ensures c.loop.invariant)

pub returns-in_err-rest-2 : goal.returns-in_err-rest-2
returns-in_err-rest-2 c =
    let total = with_front (λ (t : ℕ). t ∷ []) c.args.items.items ((many c.args.last pair).read c.args.bytes.now) in
    let p = err_from_is_err_and c.from_residual-in_err-rest-2.result c.from_residual-in_err-rest-2.ensures.1 in
    rw (p.1, p.2) (done_err (λ (t : ℕ). t ∷ []) c.args.last pair c.in_err-rest-2.field-0.0 c.loop.items.items (length c.args.bytes.now) c.loop.counter
    c.loop.rest.now total c.loop-test.false c.in_err-rest-2.ensures c.loop.invariant)

pub returns : goal.returns
returns c =
    let total = with_front (λ (t : ℕ). t ∷ []) c.args.items.items ((many c.args.last pair).read c.args.bytes.now) in
    done_ok (λ (t : ℕ). t ∷ []) c.args.last pair c.loop.items.items
    (length c.args.bytes.now) c.loop.counter c.loop.rest.now c.in_ok-rest-2.rest.now c.args.last total
    c.loop-test.false c.in_ok-rest-2.ensures c.loop.invariant
