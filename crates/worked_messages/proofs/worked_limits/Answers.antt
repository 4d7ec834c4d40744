use Rattle.worked_messages.proofs.Worked.{worked_limits}
use Rattle.worked_messages.proofs.worked_limits.Goals as goal

pub returns : goal.returns
returns c = worked_limits
