use Rattle.command_line.specs.Asked.{asked_of}
use Rattle.mojo_tool.proofs.Reporting.{printed, reported}
use Rattle.mojo_tool.proofs.top.on_one_thread.Goals as goal

pub returns-in-Ok : goal.returns-in-Ok
returns-in-Ok g c = λ words is.
    printed words (asked_of c.args.command) is _ _ _ _ _ _ c.print.result c.in-Ok.ensures.text c.in-Ok.ensures.whole
    (rw c.as_slice.ensures at c.print.ensures)

pub returns-in-Err : goal.returns-in-Err
returns-in-Err g c = λ words is.
    reported words (asked_of c.args.command) is _ _ _ _ _ c.in-Err.stop c.report.result c.in-Err.ensures.stop c.in-Err.ensures.reached
    c.in-Err.ensures.stopped c.in-Err.ensures.refused c.report.ensures
