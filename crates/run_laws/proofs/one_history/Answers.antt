use Rattle.run_laws.proofs.OneHistory.{one_history}
use Rattle.run_laws.proofs.one_history.Goals as goal

pub returns : goal.returns
returns c = one_history
