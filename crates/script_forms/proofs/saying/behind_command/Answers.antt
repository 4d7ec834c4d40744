use Rattle.script_forms.proofs.Behind.{behind_all, said_as}
use Rattle.script_forms.proofs.saying.behind_command.Goals as goal

pub returns-then-eq : goal.returns-then-eq
returns-then-eq c = said_as c.args.seqs c.args.command.now _ _ _ (rw c.as_slice.ensures at c.if-eq.ensures) c.pipe_of.ensures

pub returns-then-eq-2 : goal.returns-then-eq-2
returns-then-eq-2 c = said_as c.args.seqs c.args.command.now _ _ _ (rw c.as_slice-2.ensures at c.if-eq-2.ensures) c.mint_of.ensures

pub returns-then-eq-6 : goal.returns-then-eq-6
returns-then-eq-6 c = said_as c.args.seqs c.args.command.now _ _ _ (rw c.as_slice-6.ensures at c.if-eq-6.ensures) c.take_of.ensures

pub returns : goal.returns
returns c =
    behind_all c.args.command.now _
    (rw c.as_slice.ensures at c.if-eq.ensures)
    (rw c.as_slice-2.ensures at c.if-eq-2.ensures)
    (rw c.as_slice-3.ensures at c.if-eq-3.ensures)
    (rw c.as_slice-4.ensures at c.if-eq-4.ensures)
    (rw c.as_slice-5.ensures at c.if-eq-5.ensures)
    (rw c.as_slice-6.ensures at c.if-eq-6.ensures)
    (rw c.as_slice-7.ensures at c.if-eq-7.ensures)
    (rw c.as_slice-8.ensures at c.if-eq-8.ensures)
    c.args.seqs c.behind_writing.result c.behind_writing.ensures
