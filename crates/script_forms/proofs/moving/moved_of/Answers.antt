use Rattle.std.proofs.Common.{true, false}
use Rattle.script_forms.proofs.Movings.{begin_gets, begin_puts, end_gets_ok, end_puts_ok, gets_ok, none_moved, puts_ok}
use Rattle.script_forms.proofs.moving.moved_of.Goals as goal

pub returns-then-eq : goal.returns-then-eq
returns-then-eq c = puts_ok _ false c.args.command.now c.put_of.result (rw c.as_slice.ensures at c.if-eq.ensures) c.put_of.ensures

pub returns-then-eq-2 : goal.returns-then-eq-2
returns-then-eq-2 c = puts_ok _ true c.args.command.now c.put_all_of.result (rw c.as_slice-2.ensures at c.if-eq-2.ensures) c.put_all_of.ensures

pub returns-then-eq-3 : goal.returns-then-eq-3
returns-then-eq-3 c = gets_ok _ false c.args.command.now c.get_of.result (rw c.as_slice-3.ensures at c.if-eq-3.ensures) c.get_of.ensures

pub returns-then-eq-4 : goal.returns-then-eq-4
returns-then-eq-4 c = gets_ok _ true c.args.command.now c.get_all_of.result (rw c.as_slice-4.ensures at c.if-eq-4.ensures) c.get_all_of.ensures

pub returns-then-eq-5 : goal.returns-then-eq-5
returns-then-eq-5 c = begin_puts _ c.args.command.now _ (rw c.as_slice-5.ensures at c.if-eq-5.ensures) c.begin_put_of.ensures

pub returns-then-eq-6 : goal.returns-then-eq-6
returns-then-eq-6 c = end_puts_ok _ c.args.command.now c.end_put_of.result (rw c.as_slice-6.ensures at c.if-eq-6.ensures) c.end_put_of.ensures

pub returns-then-eq-7 : goal.returns-then-eq-7
returns-then-eq-7 c = begin_gets _ c.args.command.now _ (rw c.as_slice-7.ensures at c.if-eq-7.ensures) c.begin_get_of.ensures

pub returns-then-eq-8 : goal.returns-then-eq-8
returns-then-eq-8 c = end_gets_ok _ c.args.command.now c.end_get_of.result (rw c.as_slice-8.ensures at c.if-eq-8.ensures) c.end_get_of.ensures

pub returns : goal.returns
returns c =
    none_moved c.args.command.now _
    (rw c.as_slice.ensures at c.if-eq.ensures)
    (rw c.as_slice-2.ensures at c.if-eq-2.ensures)
    (rw c.as_slice-3.ensures at c.if-eq-3.ensures)
    (rw c.as_slice-4.ensures at c.if-eq-4.ensures)
    (rw c.as_slice-5.ensures at c.if-eq-5.ensures)
    (rw c.as_slice-6.ensures at c.if-eq-6.ensures)
    (rw c.as_slice-7.ensures at c.if-eq-7.ensures)
    (rw c.as_slice-8.ensures at c.if-eq-8.ensures)
