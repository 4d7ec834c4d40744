use Rattle.written_laws.proofs.Tables.{numbers_are_as_written}
use Rattle.written_laws.proofs.numbers_are_as_written.Goals as goal

pub returns : goal.returns
returns c = numbers_are_as_written
