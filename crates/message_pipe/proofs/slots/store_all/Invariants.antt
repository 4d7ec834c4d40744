use Rattle.std.proofs.Common.{deque_len}
use Rattle.message_pipe.specs.steps.SlotChanges.{Stores}
use Rattle.message_pipe.proofs.slots.store_all.Given as goal

-- those so far stand under their keys, and the others wait
abbrev pub invariant-loop-message : goal.invariant-loop-message
invariant-loop-message l = Stores l.initial.messages l.messages l.stored.items l.rest.items l.fn.more.items

abbrev pub decreases-loop-message : goal.decreases-loop-message
decreases-loop-message l = deque_len l.rest
