use Rattle.printed_histories.proofs.Histories.{text_said}
use Rattle.printed_histories.proofs.texts_say_their_histories.Goals as goal

pub returns : goal.returns
returns c = text_said
