use Rattle.end_notices.proofs.Stepping.{says}
use Rattle.end_notices.proofs.laws.agreeing_notices_say.Goals as goal

pub returns : goal.returns
returns c = says
