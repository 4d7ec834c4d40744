use Rattle.message_pipe.proofs.step_count.Steps.new.Goals as goal

pub invariant_of-result : goal.invariant_of-result
invariant_of-result g c = rw (c.open-book.ensures.parts, ← c.requires.parts) c.requires.some
