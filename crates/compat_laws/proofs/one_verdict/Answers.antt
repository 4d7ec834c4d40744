use Rattle.compat_laws.proofs.OneVerdict.{one_verdict}
use Rattle.compat_laws.proofs.one_verdict.Goals as goal

pub returns : goal.returns
returns c = one_verdict
