use Rattle.printed_runs.proofs.Fitting.{run_fits}
use Rattle.printed_runs.proofs.runs_send_what_fits.Goals as goal

pub returns : goal.returns
returns c = run_fits c.passed_is_encodable.ensures
