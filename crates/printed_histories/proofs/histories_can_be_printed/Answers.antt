use Rattle.printed_histories.proofs.Histories.{printable_history}
use Rattle.printed_histories.proofs.histories_can_be_printed.Goals as goal

pub returns : goal.returns
returns c = printable_history
