use Rattle.std.proofs.Common.{◌≡◌, map, take}
use Rattle.const_meanings.specs.steps.Reached.{beyond}
use Rattle.const_meanings.proofs.reach.doubled.Given as goal

abbrev pub invariant-loop-one : goal.invariant-loop-one
invariant-loop-one l = l.further.items ≡ map (beyond l.reaches) (take l.one-index l.reaches)
