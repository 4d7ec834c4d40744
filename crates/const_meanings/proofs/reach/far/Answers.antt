use Rattle.const_meanings.proofs.Reaching.{few_until, far_next}
use Rattle.const_meanings.proofs.reach.far.Goals as goal

pub doubled-requires : goal.doubled-requires
doubled-requires c =
    rw c.as_slice.ensures.value (few_until c.args.things.now c.loop-round._round c.loop-round.reaches.items c.loop-round-test.true c.loop-round.invariant)

pub loop-round-preserved : goal.loop-round-preserved
loop-round-preserved c =
    rw (c.in_ok-reaches-2.ensures, c.as_slice.ensures.value) (far_next c.args.things.now c.loop-round._round c.loop-round.reaches.items c.loop-round.invariant)
