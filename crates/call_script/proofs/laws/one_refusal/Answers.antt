use Rattle.call_script.proofs.OneAnswer.{one_refusal}
use Rattle.call_script.proofs.laws.one_refusal.Goals as goal

pub returns : goal.returns
returns c = one_refusal
