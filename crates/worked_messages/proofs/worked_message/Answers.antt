use Rattle.worked_messages.proofs.Worked.{worked_message}
use Rattle.worked_messages.proofs.worked_message.Goals as goal

pub returns : goal.returns
returns c = worked_message
