use Rattle.mojo_tool.proofs.Alike.{shown_alike}
use Rattle.mojo_tool.proofs.top.same_bytes_are_shown.Goals as goal

pub returns : goal.returns
returns c = shown_alike
