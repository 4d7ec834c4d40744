use Rattle.std.proofs.Common.{◌≡◌, drop}
use Rattle.core_state.specs.steps.Paused.{unmet_in}
use Rattle.core_state.proofs.paused.unmet.Given as goal

-- the first of what is left is the first of all
abbrev pub invariant-loop-wait : goal.invariant-loop-wait
invariant-loop-wait l = unmet_in l.state (drop l.wait-index l.waits) ≡ unmet_in l.state l.waits
