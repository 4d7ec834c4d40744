use Rattle.printed_runs.proofs.Runs.{printable_any}
use Rattle.printed_runs.proofs.runs_in_any_order_can_be_printed.Goals as goal

pub returns : goal.returns
returns c = printable_any c.passed_is_encodable.ensures
