use Rattle.std.proofs.Common.{inl, inr, length, sym, ◌∙◌}
use Rattle.std.proofs.lemmas.Result.{err_from_is_err_and}
use Rattle.history_reader.proofs.NoteReads as reads
use Rattle.history_reader.proofs.notes.behind.Goals as goal

pub returns-then-begins_tail : goal.returns-then-begins_tail
returns-then-begins_tail c =
    rw (reads.whole c.args.bytes.now c.loop.rest.now c.loop.notes.items (length c.args.bytes.now) c.loop.counter c.loop.invariant
    (inr (sym c.begins_tail.ensures ∙ c.if-begins_tail.true))) c.with_tail.ensures

pub returns-in_err-note : goal.returns-in_err-note
returns-in_err-note c =
    let p = err_from_is_err_and c.from_residual.result c.from_residual.ensures.1 in
    rw (p.1, p.2) (reads.broken c.args.bytes.now c.loop.rest.now c.loop.notes.items (length c.args.bytes.now) c.loop.counter c.loop.invariant
    c.in_err-note.field-0.0 c.loop-test.true (sym c.begins_tail.ensures ∙ c.if-begins_tail.false) c.in_err-note.ensures)

pub loop-preserved : goal.loop-preserved
loop-preserved c =
    rw c.in_ok-push.ensures.items
    (reads.goes c.args.bytes.now c.loop.rest.now c.loop.notes.items (length c.args.bytes.now) c.loop.counter c.loop.invariant c.in_ok-note.note
    c.in_ok-note.after.now c.loop-test.true (sym c.begins_tail.ensures ∙ c.if-begins_tail.false) c.in_ok-note.ensures)

pub returns : goal.returns
returns c =
    rw (reads.whole c.args.bytes.now c.loop.rest.now c.loop.notes.items (length c.args.bytes.now) c.loop.counter c.loop.invariant
    (inl c.loop-test.false)) c.with_tail-2.ensures
