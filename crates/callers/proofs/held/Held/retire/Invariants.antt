use Rattle.callers.proofs.held.Held.retire.Given as goal

abbrev pub decreases-loop-received : goal.decreases-loop-received
decreases-loop-received l = goal.left-loop-received l
