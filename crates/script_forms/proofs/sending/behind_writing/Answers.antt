use Rattle.script_forms.proofs.Behind.{moving_all, writes_ok, writes_one}
use Rattle.script_forms.proofs.sending.behind_writing.Goals as goal

pub returns-then-eq : goal.returns-then-eq
returns-then-eq c = writes_ok c.args.command.now _ _ c.call_of.result (rw c.as_slice.ensures at c.if-eq.ensures) c.call_of.ensures

pub returns-then-eq-2 : goal.returns-then-eq-2
returns-then-eq-2 c = writes_ok c.args.command.now _ _ c.call_at_of.result (rw c.as_slice-2.ensures at c.if-eq-2.ensures) c.call_at_of.ensures

pub returns-then-eq-3 : goal.returns-then-eq-3
returns-then-eq-3 c = writes_ok c.args.command.now _ _ c.answer_of.result (rw c.as_slice-3.ensures at c.if-eq-3.ensures) c.answer_of.ensures

pub returns-then-eq-4 : goal.returns-then-eq-4
returns-then-eq-4 c = writes_ok c.args.command.now _ _ c.answer_at_of.result (rw c.as_slice-4.ensures at c.if-eq-4.ensures) c.answer_at_of.ensures

pub returns-then-eq-5 : goal.returns-then-eq-5
returns-then-eq-5 c = writes_ok c.args.command.now _ _ c.raw_of.result (rw c.as_slice-5.ensures at c.if-eq-5.ensures) c.raw_of.ensures

pub returns-then-eq-6 : goal.returns-then-eq-6
returns-then-eq-6 c = writes_ok c.args.command.now _ _ c.query_of.result (rw c.as_slice-6.ensures at c.if-eq-6.ensures) c.query_of.ensures

pub returns-then-eq-7 : goal.returns-then-eq-7
returns-then-eq-7 c = writes_ok c.args.command.now _ _ c.require_of.result (rw c.as_slice-7.ensures at c.if-eq-7.ensures) c.require_of.ensures

pub returns-then-eq-8 : goal.returns-then-eq-8
returns-then-eq-8 c = writes_one c.args.command.now _ _ _ (rw c.as_slice-8.ensures at c.if-eq-8.ensures) c.flush_of.ensures

pub returns : goal.returns
returns c =
    moving_all c.args.command.now _
    (rw c.as_slice.ensures at c.if-eq.ensures)
    (rw c.as_slice-2.ensures at c.if-eq-2.ensures)
    (rw c.as_slice-3.ensures at c.if-eq-3.ensures)
    (rw c.as_slice-4.ensures at c.if-eq-4.ensures)
    (rw c.as_slice-5.ensures at c.if-eq-5.ensures)
    (rw c.as_slice-6.ensures at c.if-eq-6.ensures)
    (rw c.as_slice-7.ensures at c.if-eq-7.ensures)
    (rw c.as_slice-8.ensures at c.if-eq-8.ensures)
    c.behind_moving.result c.behind_moving.ensures
