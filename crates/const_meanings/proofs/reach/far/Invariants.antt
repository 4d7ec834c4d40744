use Rattle.std.proofs.Common.{◌^◌}
use Rattle.const_meanings.specs.steps.Reached.{AreFar}
use Rattle.const_meanings.proofs.reach.far.Given as goal

abbrev pub invariant-loop-round : goal.invariant-loop-round
invariant-loop-round l = AreFar l.things (2 ^ l._round) l.reaches.items
