use Rattle.worked_messages.proofs.Worked.{worked_flags}
use Rattle.worked_messages.proofs.worked_flags.Goals as goal

pub returns : goal.returns
returns c = worked_flags
