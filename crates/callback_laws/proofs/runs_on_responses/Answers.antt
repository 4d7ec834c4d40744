use Rattle.callback_laws.proofs.InTime.{ran_on_responses}
use Rattle.callback_laws.proofs.runs_on_responses.Goals as goal

pub returns : goal.returns
returns g c = ran_on_responses g.C.Promise.promises
