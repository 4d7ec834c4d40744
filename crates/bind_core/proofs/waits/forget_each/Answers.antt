use Rattle.bind_core.proofs.waits.forget_each.Goals as goal

pub loop-end-preserved : goal.loop-end-preserved
loop-end-preserved c = λ past closed agree. c.forget_met.ensures past closed (c.loop-end.invariant past closed agree)
