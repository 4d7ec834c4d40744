use Rattle.bind_core.specs.steps.Watching.{KeepsTaken}
use Rattle.bind_core.proofs.end_set.EndSet.settle_all.Given as goal

-- what is ready stays
abbrev pub invariant-loop-thing : goal.invariant-loop-thing
invariant-loop-thing l = KeepsTaken l.state l.initial.self l.self
