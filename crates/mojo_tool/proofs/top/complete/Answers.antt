use Rattle.mojo_tool.proofs.Completes.{completes}
use Rattle.mojo_tool.proofs.top.complete.Goals as goal

pub returns : goal.returns
returns c = completes c.runs_in_any_order_can_be_printed.ensures
