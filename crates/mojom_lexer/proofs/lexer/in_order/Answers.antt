use Rattle.mojom_lexer.proofs.Order.{in_order}
use Rattle.mojom_lexer.proofs.lexer.in_order.Goals as goal

pub returns : goal.returns
returns c = in_order
