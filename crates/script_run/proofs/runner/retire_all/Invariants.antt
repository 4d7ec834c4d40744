use Rattle.script_run.proofs.runner.retire_all.Given as goal

abbrev pub decreases-loop-room : goal.decreases-loop-room
decreases-loop-room l = goal.left-loop-room l
