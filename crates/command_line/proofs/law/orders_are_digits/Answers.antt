use Rattle.command_line.proofs.Orders.{taken_order, order_only}
use Rattle.command_line.proofs.law.orders_are_digits.Goals as goal

pub returns : goal.returns
returns c = record { taken = taken_order; only = order_only }
