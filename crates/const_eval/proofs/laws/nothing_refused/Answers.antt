use Rattle.const_eval.proofs.OneAnswer.{nothing_refused}
use Rattle.const_eval.proofs.laws.nothing_refused.Goals as goal

pub returns : goal.returns
returns c = nothing_refused
