use Rattle.check_cores.proofs.held.Held.put_pendings.Given as goal

abbrev pub decreases-loop-pending : goal.decreases-loop-pending
decreases-loop-pending l = goal.left-loop-pending l
