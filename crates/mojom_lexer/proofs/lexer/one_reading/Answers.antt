use Rattle.mojom_lexer.proofs.Laws.{one_reading}
use Rattle.mojom_lexer.proofs.lexer.one_reading.Goals as goal

pub returns : goal.returns
returns c = one_reading
