use Rattle.written_laws.proofs.OwnRows.{own_rows}
use Rattle.written_laws.proofs.definitions_have_rows.Goals as goal

pub returns : goal.returns
returns c = own_rows
