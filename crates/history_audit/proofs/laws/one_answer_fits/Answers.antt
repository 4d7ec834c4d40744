use Rattle.history_audit.proofs.Exactly.{one_audit}
use Rattle.history_audit.proofs.laws.one_answer_fits.Goals as goal

pub returns : goal.returns
returns c = λ schema script is printable bytes one other first second. one_audit schema script is printable bytes one other first second
