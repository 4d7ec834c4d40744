use Rattle.std.proofs.Common.{List, refl, subst}
use Rattle.queued_keys.specs.declared.key.Key.{Key}
use Rattle.message_pipe.specs.steps.SlotChanges.{Loses}
use Rattle.message_pipe.proofs.queueing.queue_all.Goals as goal

pub returns-in-Ok-clause-ok : goal.returns-in-Ok-clause-ok
returns-in-Ok-clause-ok c = (refl, c.in-Ok.ensures.ok)

pub returns-clause-err : goal.returns-clause-err
returns-clause-err c = (
  c.in-Err.ensures.err,
  subst (λ (ks : List Key). Loses c.args.messages.now c.forget.new.messages ks) c.in-Err.ensures.stay c.forget.ensures,
)
