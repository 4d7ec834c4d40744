use Rattle.written_laws.proofs.EnumTables.{enumerators_are_as_written}
use Rattle.written_laws.proofs.enumerators_are_as_written.Goals as goal

pub returns : goal.returns
returns c = enumerators_are_as_written
