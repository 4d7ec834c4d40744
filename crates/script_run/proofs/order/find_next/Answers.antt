use Rattle.std.proofs.Common.{ℕ, ◌/◌, ◌%◌, sym, ap, ◌∙◌}
use Rattle.std.specs.Prelude.{◌^◌, slice_get}
use Rattle.script_run.specs.steps.Orders.{left_from}
use Rattle.script_run.proofs.OrderSteps.{count_left, none_round}
use Rattle.script_run.proofs.order.find_next.Goals as goal

pub returns-then-count-eq0-clause-found : goal.returns-then-count-eq0-clause-found
returns-then-count-eq0-clause-found c =
    sym (none_round c.args.queues.now c.args.draw c.count_left-count.result c.count_left-count.ensures c.if-count-eq0.true)

pub returns-clause-found : goal.returns-clause-found
returns-clause-found c =
    c.find_left.ensures.found
    ∙ ap (λ (n : ℕ). slice_get (left_from 0 c.args.queues.now) (c.args.draw / (2 ^ 32) % n)) (c.count_left-count.ensures ∙ count_left c.args.queues.now)
