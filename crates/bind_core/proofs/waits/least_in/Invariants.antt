use Rattle.std.proofs.Common.{◌≡◌, drop}
use Rattle.bind_core.specs.steps.FirstTaken.{least_among}
use Rattle.bind_core.specs.Takers.{ready_taker}
use Rattle.bind_core.proofs.waits.least_in.Given as goal

-- the least with what is left is the least of all
abbrev pub invariant-loop-end : goal.invariant-loop-end
invariant-loop-end l = least_among (ready_taker l.state) l.least (drop l.end-index l.ends) ≡ least_among (ready_taker l.state) l.fn.found l.ends
