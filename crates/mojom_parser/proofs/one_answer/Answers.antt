use Rattle.mojom_parser.proofs.Laws.{one_answer}
use Rattle.mojom_parser.proofs.one_answer.Goals as goal

pub returns : goal.returns
returns c = λ tokens. one_answer tokens
