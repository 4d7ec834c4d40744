use Rattle.script_run.proofs.FewEvents.{ran_few}
use Rattle.script_run.proofs.laws.ran_few.Goals as goal

pub returns : goal.returns
returns c = ran_few
