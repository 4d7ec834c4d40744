use Rattle.pipe_runs.proofs.Running.{runs_alike}
use Rattle.pipe_runs.proofs.laws.equal_contents_run_alike.Goals as goal

pub returns : goal.returns
returns c = runs_alike
