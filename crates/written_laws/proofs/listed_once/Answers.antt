use Rattle.written_laws.proofs.Listed.{listed_once}
use Rattle.written_laws.proofs.listed_once.Goals as goal

pub returns : goal.returns
returns c = listed_once
