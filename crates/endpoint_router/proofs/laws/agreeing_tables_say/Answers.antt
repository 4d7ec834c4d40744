use Rattle.endpoint_router.proofs.Agreeing.{says}
use Rattle.endpoint_router.proofs.laws.agreeing_tables_say.Goals as goal

pub returns : goal.returns
returns c = says
