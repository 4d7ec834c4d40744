use Rattle.schema_laws.proofs.HasAll.{has_all}
use Rattle.schema_laws.proofs.nothing_lost.Goals as goal

pub returns : goal.returns
returns c = has_all
