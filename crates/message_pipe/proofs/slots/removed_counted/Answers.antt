use Rattle.message_pipe.proofs.slots.removed_counted.Goals as goal

pub returns-clause-steps : goal.returns-clause-steps
returns-clause-steps g c = c.tick.ensures
