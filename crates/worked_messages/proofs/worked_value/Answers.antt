use Rattle.worked_messages.proofs.Worked.{worked}
use Rattle.worked_messages.proofs.worked_value.Goals as goal

pub returns : goal.returns
returns c = worked
