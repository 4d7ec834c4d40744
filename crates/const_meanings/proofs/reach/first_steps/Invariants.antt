use Rattle.const_meanings.proofs.Reaching.{FarUpTo}
use Rattle.const_meanings.proofs.reach.first_steps.Given as goal

abbrev pub invariant-loop-number : goal.invariant-loop-number
invariant-loop-number l = FarUpTo l.things 1 l.number l.reaches.items
