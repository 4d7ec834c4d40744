use Rattle.worked_messages.proofs.Worked.{worked_absent}
use Rattle.worked_messages.proofs.worked_absent.Goals as goal

pub returns : goal.returns
returns c = worked_absent
