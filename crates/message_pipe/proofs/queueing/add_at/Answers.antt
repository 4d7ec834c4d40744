use Rattle.std.proofs.Common.{◌++◌, ap, drop, ◌∙◌}
use Rattle.std.specs.Prelude.{Option}
use Rattle.queued_keys.specs.Ends.{keys_at, keys_of}
use Rattle.queued_keys.specs.declared.keyed_end.KeyedEnd.{KeyedEnd}
use Rattle.message_pipe.specs.Mail.{handles_of}
use Rattle.message_pipe.specs.Slots.{messages_of}
use Rattle.message_pipe.proofs.Carrying.{carried_by, none_carried}
use Rattle.message_pipe.proofs.queueing.add_at.Goals as goal

pub returns-in-Some : goal.returns-in-Some
returns-in-Some c = carried_by c.add_queued.result c.args.messages.now c.as_deque.result.now.items (keys_at c.args.keys.now c.args.end) c.args.skipped
    c.args.into.now.items c.add_queued.new.into.items (c.as_deque.ensures ∙ ap keys_of c.in-Some.ensures) c.add_queued.ensures

pub returns-in-None : goal.returns-in-None
returns-in-None c = none_carried c.args.messages.now c.args.skipped c.args.into.now.items
    ∙ ap (λ (o : Option KeyedEnd). c.args.into.now.items ++ handles_of (messages_of c.args.messages.now (drop c.args.skipped (keys_of o))))
    c.in-None.ensures
