use Rattle.compat_check.proofs.SomeVerdict.{some_verdict}
use Rattle.compat_check.proofs.law.some_verdict.Goals as goal

pub returns : goal.returns
returns c = some_verdict
