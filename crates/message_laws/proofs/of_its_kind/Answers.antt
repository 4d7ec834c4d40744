use Rattle.message_laws.proofs.FilledSchemas.{filled}
use Rattle.message_laws.proofs.OfItsKind.{of_its_kind}
use Rattle.message_laws.proofs.of_its_kind.Goals as goal

pub returns : goal.returns
returns c = λ schema expected bytes handle_count number. of_its_kind schema expected bytes handle_count number (filled schema)
