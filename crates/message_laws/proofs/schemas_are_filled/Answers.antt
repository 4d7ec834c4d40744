use Rattle.message_laws.proofs.FilledSchemas.{filled}
use Rattle.message_laws.proofs.schemas_are_filled.Goals as goal

pub returns : goal.returns
returns c = filled
