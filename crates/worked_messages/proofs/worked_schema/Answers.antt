use Rattle.worked_messages.proofs.Worked.{some_schema}
use Rattle.worked_messages.proofs.worked_schema.Goals as goal

pub returns : goal.returns
returns c = some_schema
