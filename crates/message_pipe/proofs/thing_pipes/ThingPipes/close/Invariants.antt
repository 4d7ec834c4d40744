use Rattle.std.proofs.Common.{take}
use Rattle.message_pipe.specs.Contents.{Closes}
use Rattle.message_pipe.proofs.thing_pipes.ThingPipes.close.Given as goal

-- those so far are closed
abbrev pub invariant-loop-thing : goal.invariant-loop-thing
invariant-loop-thing l = Closes (take l.thing-index l.things) l.initial.self l.self
