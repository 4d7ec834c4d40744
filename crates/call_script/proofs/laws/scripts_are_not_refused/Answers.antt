use Rattle.call_script.proofs.OneAnswer.{never_both}
use Rattle.call_script.proofs.laws.scripts_are_not_refused.Goals as goal

pub returns : goal.returns
returns c = never_both
