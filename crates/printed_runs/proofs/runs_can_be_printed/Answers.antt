use Rattle.printed_runs.proofs.Runs.{printable_run}
use Rattle.printed_runs.proofs.runs_can_be_printed.Goals as goal

pub returns : goal.returns
returns c = printable_run c.passed_is_encodable.ensures
