use Rattle.mojo_tool.proofs.Reprinted.{printed_again}
use Rattle.mojo_tool.proofs.top.prints_again.Goals as goal

pub returns : goal.returns
returns c = printed_again
