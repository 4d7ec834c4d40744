use Rattle.check_cores.proofs.held.Held.retire.Given as goal

abbrev pub decreases-loop-responder : goal.decreases-loop-responder
decreases-loop-responder l = goal.left-loop-responder l
