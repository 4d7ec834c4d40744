use Rattle.worked_messages.proofs.Worked.{worked_moment}
use Rattle.worked_messages.proofs.worked_moment.Goals as goal

pub returns : goal.returns
returns c = worked_moment
