use Rattle.std.proofs.Common.{[], ◌∷◌, refl}
use Rattle.message_pipe.proofs.Entering.{entered, not_entered}
use Rattle.message_pipe.proofs.Places.{same_slots}
use Rattle.message_pipe.proofs.queueing.enter.Goals as goal

pub queue-requires-clause-key : goal.queue-requires-clause-key
queue-requires-clause-key c = c.in-Some.ensures.key

pub queue-requires-clause-room : goal.queue-requires-clause-room
queue-requires-clause-room c = c.in-Some.ensures.room

pub returns-in-Some-clause-ok : goal.returns-in-Some-clause-ok
returns-in-Some-clause-ok c = entered c.queue.result c.args.end (c.args.message ∷ []) c.args.keys.now c.queue.new.keys c.args.messages.now
    c.ready.new.messages c.queue.new.messages (same_slots c.args.messages.now c.ready.new.messages c.ready.ensures.same) c.queue.ensures.ok

pub returns-in-Some-clause-err : goal.returns-in-Some-clause-err
returns-in-Some-clause-err c = not_entered c.queue.result c.args.message c.args.keys.now c.queue.new.keys c.args.messages.now c.ready.new.messages
    c.queue.new.messages (same_slots c.args.messages.now c.ready.new.messages c.ready.ensures.same) c.queue.ensures.err

pub returns-in-None-clause-err : goal.returns-in-None-clause-err
returns-in-None-clause-err c = (refl, refl, same_slots c.args.messages.now c.ready.new.messages c.ready.ensures.same)
