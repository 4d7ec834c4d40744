use Rattle.std.proofs.Common.{take}
use Rattle.message_pipe.specs.steps.SlotChanges.{Loses}
use Rattle.message_pipe.proofs.slots.forget.Given as goal

-- those so far are gone
abbrev pub invariant-loop-number : goal.invariant-loop-number
invariant-loop-number l = Loses l.initial.messages l.messages (take l.number l.keys.items)
