use Rattle.history_audit.proofs.Exactly.{bad_alone, one_bad}
use Rattle.history_audit.proofs.laws.bad_texts_are_nothing_else.Goals as goal

pub returns-clause-bad : goal.returns-clause-bad
returns-clause-bad c = λ schema script is printable bytes one other. one_bad schema script is printable bytes one other

pub returns-clause-alone : goal.returns-clause-alone
returns-clause-alone c = λ schema script is printable bytes at audit. bad_alone schema script is printable bytes at audit
