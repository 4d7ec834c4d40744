use Rattle.schema_laws.proofs.SomeAnswer.{some_answer}
use Rattle.schema_laws.proofs.some_answer.Goals as goal

pub returns : goal.returns
returns c = some_answer
