use Rattle.std.proofs.Common.{List, subst}
use Rattle.queued_keys.specs.declared.key.Key.{Key}
use Rattle.message_pipe.specs.steps.SlotChanges.{Loses}
use Rattle.message_pipe.proofs.queueing.forget_found.Goals as goal

pub returns-in-Some : goal.returns-in-Some
returns-in-Some c = rw c.in-Some.is
    (subst (λ (ks : List Key). Loses c.args.messages.now c.forget.new.messages ks) c.as_deque.ensures c.forget.ensures)
