use Rattle.history_reader.proofs.RoundTrip.{own_text}
use Rattle.history_reader.proofs.laws.what_is_read_has_that_text.Goals as goal

pub returns : goal.returns
returns c = own_text
