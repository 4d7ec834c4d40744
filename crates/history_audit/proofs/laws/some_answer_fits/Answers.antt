use Rattle.history_audit.proofs.SomeAnswer.{some_audit}
use Rattle.history_audit.proofs.laws.some_answer_fits.Goals as goal

pub returns : goal.returns
returns c = λ schema script is short printable bytes. some_audit schema script is short printable bytes
