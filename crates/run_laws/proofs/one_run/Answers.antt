use Rattle.run_laws.proofs.OneHistory.{one_run}
use Rattle.run_laws.proofs.one_run.Goals as goal

pub returns : goal.returns
returns c = one_run
