use Rattle.script_laws.proofs.Lines.{some_answer}
use Rattle.script_laws.proofs.some_answer.Goals as goal

pub returns : goal.returns
returns c = some_answer c.passed_is_encodable.ensures
