use Rattle.printed_runs.proofs.Runs.{run_read_back}
use Rattle.printed_runs.proofs.runs_are_read_back.Goals as goal

pub returns : goal.returns
returns c = run_read_back c.passed_is_encodable.ensures
