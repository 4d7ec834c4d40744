use Rattle.std.proofs.Common.{rules}
use Rattle.command_line.proofs.Orders.{order_is, no_order}
use Rattle.command_line.proofs.read.read_order.Goals as goal

pub returns-then-eq : goal.returns-then-eq
returns-then-eq c = order_is c.args.text.now c.unwrap_or-number.result (search rules) (search rules)

pub returns : goal.returns
returns c = no_order c.args.text.now c.parse.result (search rules) (λ e. search rules)
