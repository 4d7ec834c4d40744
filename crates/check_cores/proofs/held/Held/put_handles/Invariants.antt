use Rattle.check_cores.proofs.held.Held.put_handles.Given as goal

abbrev pub decreases-loop-handle : goal.decreases-loop-handle
decreases-loop-handle l = goal.left-loop-handle l
