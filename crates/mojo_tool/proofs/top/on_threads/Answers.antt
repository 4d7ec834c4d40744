use Rattle.command_line.specs.Asked.{at_once_of}
use Rattle.mojo_tool.proofs.Reporting.{printed, reported}
use Rattle.mojo_tool.proofs.top.on_threads.Goals as goal

pub returns-in-Ok : goal.returns-in-Ok
returns-in-Ok g c = λ words is.
    let names = c.as_slice.ensures.value in
    printed words (at_once_of c.args.run) is _ _ _ _ _ _ c.print.result (rw names at c.in-Ok.ensures.text) (rw names at c.in-Ok.ensures.whole)
    (rw c.as_slice-in-Ok.ensures at c.print.ensures)

pub returns : goal.returns
returns g c = λ words is.
    let names = c.as_slice.ensures.value in
    reported words (at_once_of c.args.run) is _ _ _ _ _ c.in-Err.stop c.report.result (rw names at c.in-Err.ensures.stop)
    (rw names at c.in-Err.ensures.reached) (rw names at c.in-Err.ensures.stopped) (rw names at c.in-Err.ensures.refused) c.report.ensures
