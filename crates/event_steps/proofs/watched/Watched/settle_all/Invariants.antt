use Rattle.bind_core.specs.steps.Watching.{KeepsTaken}
use Rattle.event_tables.specs.AsCore.{state_of}
use Rattle.event_steps.proofs.watched.Watched.settle_all.Given as goal

-- what is ready stays
abbrev pub invariant-loop-thing : goal.invariant-loop-thing
invariant-loop-thing l = KeepsTaken (state_of l.tables) l.initial.self l.self
