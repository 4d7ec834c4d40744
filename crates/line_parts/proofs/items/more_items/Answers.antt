use Rattle.std.proofs.Common.{inl, inr, length, sym, ◌∙◌}
use Rattle.std.proofs.lemmas.Result.{err_from_is_err_and}
use Rattle.line_parts.specs.Signs.{closes}
use Rattle.line_parts.proofs.ItemLoops as loops
use Rattle.line_parts.proofs.ItemReads.{Lists}
use Rattle.line_parts.proofs.items.more_items.Goals as goal

pub returns-then-is_next : goal.returns-then-is_next
returns-then-is_next c =
    let before : Lists = (c.args.tokens.handles.items, c.args.tokens.pendings.items) in
    let front : Lists = (c.loop.tokens.handles.items, c.loop.tokens.pendings.items) in
    loops.halts before front c.args.seen c.loop.seen c.args.bytes.now c.loop.rest.now (length c.args.bytes.now) c.loop.counter c.loop.invariant
    (inr (sym c.is_next.ensures ∙ c.if-is_next.true)) closes c.in_ok-rest.rest.now c.in_ok-rest.ensures

pub returns-in_err-item : goal.returns-in_err-item
returns-in_err-item c =
    let before : Lists = (c.args.tokens.handles.items, c.args.tokens.pendings.items) in
    let front : Lists = (c.loop.tokens.handles.items, c.loop.tokens.pendings.items) in
    let p = err_from_is_err_and c.from_residual-in_err-item.result c.from_residual-in_err-item.ensures.1 in
    rw (p.1, p.2) (loops.breaks before front c.args.seen c.loop.seen c.args.bytes.now c.loop.rest.now (length c.args.bytes.now) c.loop.counter
    c.loop.invariant c.in_err-item.field-0.0 c.loop-test.true (sym c.is_next.ensures ∙ c.if-is_next.false) c.in_err-item.ensures)

pub loop-preserved : goal.loop-preserved
loop-preserved c =
    let before : Lists = (c.args.tokens.handles.items, c.args.tokens.pendings.items) in
    let front : Lists = (c.loop.tokens.handles.items, c.loop.tokens.pendings.items) in
    rw c.is_pending-seen.ensures
    (loops.goes before front c.args.seen c.loop.seen c.args.bytes.now c.loop.rest.now (length c.args.bytes.now) c.loop.counter c.loop.invariant
    c.in_ok-item.item c.in_ok-item.after.now _ _ c.loop-test.true (sym c.is_next.ensures ∙ c.if-is_next.false) c.in_ok-item.ensures
    c.in_ok-push.ensures.handles c.in_ok-push.ensures.pendings)

pub returns-in_err-rest-2 : goal.returns-in_err-rest-2
returns-in_err-rest-2 c =
    let before : Lists = (c.args.tokens.handles.items, c.args.tokens.pendings.items) in
    let front : Lists = (c.loop.tokens.handles.items, c.loop.tokens.pendings.items) in
    let p = err_from_is_err_and c.from_residual-in_err-rest-2.result c.from_residual-in_err-rest-2.ensures.1 in
    rw (p.1, p.2) (loops.halts_err before front c.args.seen c.loop.seen c.args.bytes.now c.loop.rest.now (length c.args.bytes.now) c.loop.counter
    c.loop.invariant c.in_err-rest-2.field-0.0 (inl c.loop-test.false) c.in_err-rest-2.ensures)

pub returns : goal.returns
returns c =
    let before : Lists = (c.args.tokens.handles.items, c.args.tokens.pendings.items) in
    let front : Lists = (c.loop.tokens.handles.items, c.loop.tokens.pendings.items) in
    loops.halts before front c.args.seen c.loop.seen c.args.bytes.now c.loop.rest.now (length c.args.bytes.now) c.loop.counter c.loop.invariant
    (inl c.loop-test.false) closes c.in_ok-rest-2.rest.now c.in_ok-rest-2.ensures
