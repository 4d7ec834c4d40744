use Rattle.const_meanings.proofs.Reaching.{one_meaning}
use Rattle.const_meanings.proofs.meaning.one_meaning.Goals as goal

pub returns : goal.returns
returns c = one_meaning
