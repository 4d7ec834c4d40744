use Rattle.written_laws.proofs.ConstTables.{literals_fit}
use Rattle.written_laws.proofs.literals_fit.Goals as goal

pub returns : goal.returns
returns c = literals_fit
