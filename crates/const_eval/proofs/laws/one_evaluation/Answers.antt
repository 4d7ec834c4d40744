use Rattle.const_eval.proofs.OneAnswer.{one_consts, one_refusal, not_both}
use Rattle.const_eval.proofs.laws.one_evaluation.Goals as goal

pub returns : goal.returns
returns c = record { consts = one_consts; refusals = one_refusal; exclusive = not_both }
