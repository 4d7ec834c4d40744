use Rattle.history_reader.proofs.RoundTrip.{reads_back}
use Rattle.history_reader.proofs.laws.texts_are_read_back.Goals as goal

pub returns : goal.returns
returns c = reads_back
