use Rattle.history_reader.proofs.RoundTrip.{message_fits}
use Rattle.history_reader.proofs.laws.fitting_messages_are_said.Goals as goal

pub returns : goal.returns
returns c = message_fits
