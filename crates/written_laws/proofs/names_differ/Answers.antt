use Rattle.written_laws.proofs.Lists.{names_differ}
use Rattle.written_laws.proofs.names_differ.Goals as goal

pub returns : goal.returns
returns c = names_differ
