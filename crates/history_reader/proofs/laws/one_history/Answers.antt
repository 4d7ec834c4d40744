use Rattle.history_reader.proofs.RoundTrip.{same_history}
use Rattle.history_reader.proofs.laws.one_history.Goals as goal

pub returns : goal.returns
returns c = same_history
