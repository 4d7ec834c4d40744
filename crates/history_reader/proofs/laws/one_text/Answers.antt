use Rattle.history_reader.proofs.RoundTrip.{same_text}
use Rattle.history_reader.proofs.laws.one_text.Goals as goal

pub returns : goal.returns
returns c = same_text
