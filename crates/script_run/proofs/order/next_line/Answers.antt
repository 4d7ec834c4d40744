use Rattle.std.proofs.Common.{◌≡◌, get_or, sym, subst}
use Rattle.std.specs.Prelude.{Option, Some, slice_get}
use Rattle.std.specs.Borrow.{Bor}
use Rattle.std.specs.Option.{option_copied}
use Rattle.std.proofs.lemmas.Option.{slice_get-get_or}
use Rattle.call_script.specs.declared.script.Line.{Line}
use Rattle.script_run.specs.steps.Orders.{Takes}
use Rattle.script_run.proofs.OrderSteps.{if_copied, takes_none, takes_some, waiting_less}
use Rattle.script_run.proofs.order.next_line.Goals as goal

pub returns-in_err-seq-clause-takes : goal.returns-in_err-seq-clause-takes
returns-in_err-seq-clause-takes c =
    let queues = c.args.queues.now in
    subst (λ (line : Option (Bor Line)). Takes queues c.args.draw (option_copied line) queues) (sym c.from_residual.ensures)
    (takes_none queues queues c.args.draw (sym c.in_err-seq.ensures.found))

pub returns-clause-takes : goal.returns-clause-takes
returns-clause-takes c =
    let queues = c.args.queues.now in
    let queue = get_or queues c.in_ok-seq.seq c.index-queues-seq.result in
    let here : slice_get queues c.in_ok-seq.seq ≡ Some queue
    = slice_get-get_or queues c.in_ok-seq.seq c.index-queues-seq.result c.in_ok-seq.ensures.within in
    takes_some queues c.args.draw c.in_ok-seq.seq queue c.next.new.self (option_copied c.next.result)
    (sym c.in_ok-seq.ensures.found) here c.next.ensures.line c.next.ensures.lines (if_copied c.next.result _ c.next.ensures.done)

pub returns-clause-less : goal.returns-clause-less
returns-clause-less c =
    let queues = c.args.queues.now in
    let queue = get_or queues c.in_ok-seq.seq c.index-queues-seq.result in
    let here : slice_get queues c.in_ok-seq.seq ≡ Some queue
    = slice_get-get_or queues c.in_ok-seq.seq c.index-queues-seq.result c.in_ok-seq.ensures.within in
    waiting_less queues c.in_ok-seq.seq queue c.next.new.self c.next.result here c.next.ensures.line c.next.ensures.lines
    c.next.ensures.done
