use Rattle.event_takes.proofs.forgetting.forget_all.Goals as goal

pub loop-end-preserved : goal.loop-end-preserved
loop-end-preserved c = λ past closed agree. c.forget_met.ensures past closed (c.loop-end.invariant past closed agree)
