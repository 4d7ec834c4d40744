use Rattle.std.proofs.Common.{◌≡◌, ℕ, [], length}
use Rattle.std.specs.Prelude.{Some, slice_get}
use Rattle.script_run.specs.declared.order.Queue.{Queue}
use Rattle.script_run.specs.steps.Orders.{IsQueue}
use Rattle.script_run.proofs.order.all_queues.Given as goal

-- each sequence so far has its queue
abbrev pub invariant-loop-seq : goal.invariant-loop-seq
invariant-loop-seq l = record {
  count : length l.queues.items ≡ l.seq;
  each : (n : ℕ) (queue : Queue) → slice_get l.queues.items n ≡ Some queue → IsQueue l.script [] n queue;
}
