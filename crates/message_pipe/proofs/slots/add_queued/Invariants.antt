use Rattle.std.proofs.Common.{◌≡◌, ◌++◌, drop}
use Rattle.message_pipe.specs.Mail.{handles_of}
use Rattle.message_pipe.specs.Slots.{messages_of}
use Rattle.message_pipe.proofs.slots.add_queued.Given as goal

-- with those of the messages that are left there are all
abbrev pub invariant-loop-number : goal.invariant-loop-number
invariant-loop-number l = l.into.items ++ handles_of (messages_of l.messages (drop l.number l.keys.items))
    ≡ l.initial.into.items ++ handles_of (messages_of l.messages (drop l.skipped l.keys.items))
