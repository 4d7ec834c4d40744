use Rattle.std.proofs.Common.{◌≡◌, drop}
use Rattle.bind_core.specs.steps.FirstTaken.{least_among}
use Rattle.bind_core.specs.Takers.{ready_taker}
use Rattle.bind_core.specs.Causes.{all_for, gone_causes}
use Rattle.bind_core.proofs.waits.least_gone.Given as goal

-- the least with what is left is the least of all
abbrev pub invariant-loop-thing : goal.invariant-loop-thing
invariant-loop-thing l = least_among (ready_taker l.state) l.least (all_for l.waiting (gone_causes (drop l.thing-index l.things)))
    ≡ least_among (ready_taker l.state) l.fn.found (all_for l.waiting (gone_causes l.things))
