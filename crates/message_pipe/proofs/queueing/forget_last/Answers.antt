use Rattle.std.proofs.Common.{subst}
use Rattle.std.specs.Prelude.{Option}
use Rattle.queued_keys.specs.Ends.{keys_of}
use Rattle.queued_keys.specs.declared.keyed_end.KeyedEnd.{KeyedEnd}
use Rattle.message_pipe.specs.steps.SlotChanges.{Loses}
use Rattle.message_pipe.proofs.queueing.forget_last.Goals as goal

pub returns : goal.returns
returns c = subst (λ (o : Option KeyedEnd). Loses c.args.messages.now c.forget_found.new.messages (keys_of o)) c.last.ensures c.forget_found.ensures
