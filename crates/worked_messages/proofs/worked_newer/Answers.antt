use Rattle.worked_messages.proofs.Worked.{worked_newer}
use Rattle.worked_messages.proofs.worked_newer.Goals as goal

pub returns : goal.returns
returns c = worked_newer
