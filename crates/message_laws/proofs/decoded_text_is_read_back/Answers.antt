use Rattle.message_laws.proofs.FilledSchemas.{filled}
use Rattle.message_laws.proofs.OfItsKind.{read_back}
use Rattle.message_laws.proofs.decoded_text_is_read_back.Goals as goal

pub returns : goal.returns
returns c = λ schema expected bytes handle_count number read. read_back schema expected bytes handle_count number read (filled schema)
