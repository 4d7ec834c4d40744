use Rattle.schema_laws.proofs.Assembly.{whole_passed}
use Rattle.schema_laws.proofs.whole_draft.Goals as goal

pub returns : goal.returns
returns c = whole_passed
