use Rattle.command_line.specs.Asked.{command_of}
use Rattle.mojo_tool.proofs.OneWork.{one_work}
use Rattle.mojo_tool.proofs.top.one_work.Goals as goal

pub returns : goal.returns
returns c = λ words files work other. one_work c.runs_in_any_order_can_be_printed.ensures (command_of words) files work other
