use Rattle.command_line.specs.Asked.{command_of}
use Rattle.mojo_tool.proofs.SomeWork.{some_work}
use Rattle.mojo_tool.proofs.top.some_work.Goals as goal

pub returns : goal.returns
returns c = λ words files.
    some_work c.runs_in_any_order_can_be_printed.ensures c.some_answer.ensures c.sealed_is_read.ensures.passed
    c.sealed_is_read.ensures.few (command_of words) files
