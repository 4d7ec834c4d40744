use Rattle.std.proofs.Common.{◌+◌, ℕ, [], length, refl, ap, ◌∙◌}
use Rattle.std.specs.Prelude.{filter}
use Rattle.std.proofs.lemmas.List.{length_push}
use Rattle.script_run.specs.Order.{is_own}
use Rattle.script_run.specs.declared.order.Queue.{Queue}
use Rattle.script_run.specs.steps.Orders.{IsQueue, numbered}
use Rattle.script_run.proofs.OrderSteps.{each_more}
use Rattle.script_run.proofs.order.all_queues.Goals as goal

pub loop-seq-preserved : goal.loop-seq-preserved
loop-seq-preserved c =
    let queue : Queue = record { lines = c.in_ok-lines.lines; done = 0 } in
    let is : IsQueue c.args.script.now [] c.loop-seq.seq queue = record {
      lines = c.in_ok-lines.ensures ∙ ap (filter (is_own (numbered c.loop-seq.seq))) c.as_slice.ensures;
      done = refl;
    } in
    record {
      count = ap length c.in_ok-push.ensures.items ∙ (length_push c.loop-seq.queues.items queue ∙ ap (λ (n : ℕ). n + 1) c.loop-seq.invariant.count);
      each = each_more c.args.script.now c.loop-seq.queues.items c.push.new.self.items c.loop-seq.seq queue c.loop-seq.invariant.count
          c.loop-seq.invariant.each is c.in_ok-push.ensures.items;
    }
