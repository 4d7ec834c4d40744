use Rattle.std.proofs.Common.{◌≡◌, drop}
use Rattle.core_state.specs.steps.Paused.{unmet_in}
use Rattle.event_tables.specs.AsCore.{state_of}
use Rattle.event_takes.proofs.taking.unmet.Given as goal

-- the first of what is left is the first of all
abbrev pub invariant-loop-wait : goal.invariant-loop-wait
invariant-loop-wait l = unmet_in (state_of l.tables) (drop l.wait-index l.waits) ≡ unmet_in (state_of l.tables) l.waits
