use Rattle.std.specs.Prelude.{map}
use Rattle.script_run.specs.steps.Orders.{HasTaken, waiting}
use Rattle.script_run.proofs.order.in_order.Given as goal

-- the lines so far are the first in the order
abbrev pub invariant-loop-line : goal.invariant-loop-line
invariant-loop-line l = HasTaken l.script l.order l.draw (map (λ line. line.now) l.lines.items) l.queues.items

abbrev pub decreases-loop-line : goal.decreases-loop-line
decreases-loop-line l = waiting l.queues.items
