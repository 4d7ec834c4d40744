use Rattle.std.proofs.Common.{inl, inr, length, sym, ◌∙◌}
use Rattle.std.proofs.lemmas.Result.{err_from_is_err_and}
use Rattle.history_reader.proofs.WholeReads as reads
use Rattle.history_reader.proofs.history.history_with.Goals as goal

pub returns-then-begins_behind : goal.returns-then-begins_behind
returns-then-begins_behind c =
    rw (reads.whole c.args.schema.now c.args.names.now c.args.bytes.now c.loop-number.rest.now c.loop-number.events.items (length c.args.bytes.now)
    c.loop-number.number c.loop-number.invariant (inr (sym c.begins_behind.ensures ∙ c.if-begins_behind.true))) c.with_behind.ensures

pub returns-in_err-event : goal.returns-in_err-event
returns-in_err-event c =
    let p = err_from_is_err_and c.from_residual.result c.from_residual.ensures.1 in
    rw (p.1, p.2) (reads.broken c.args.schema.now c.args.names.now c.args.bytes.now c.loop-number.rest.now c.loop-number.events.items
    (length c.args.bytes.now) c.loop-number.number c.loop-number.invariant c.in_err-event.field-0.0 c.loop-number-test.true
    (sym c.begins_behind.ensures ∙ c.if-begins_behind.false) c.in_err-event.ensures)

pub loop-number-preserved : goal.loop-number-preserved
loop-number-preserved c =
    rw c.in_ok-push.ensures.items
    (reads.goes c.args.schema.now c.args.names.now c.args.bytes.now c.loop-number.rest.now c.loop-number.events.items (length c.args.bytes.now)
    c.loop-number.number c.loop-number.invariant c.in_ok-event.event c.in_ok-event.after.now c.loop-number-test.true
    (sym c.begins_behind.ensures ∙ c.if-begins_behind.false) c.in_ok-event.ensures)

pub returns : goal.returns
returns c =
    rw (reads.whole c.args.schema.now c.args.names.now c.args.bytes.now c.loop-number.rest.now c.loop-number.events.items (length c.args.bytes.now)
    c.loop-number.number c.loop-number.invariant (inl c.loop-number-test.false)) c.with_behind-2.ensures
