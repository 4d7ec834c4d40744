use Rattle.bind_core.proofs.waits.forget_near.Goals as goal

pub returns : goal.returns
returns c = λ past closed agree. c.forget_peer.ensures past closed (c.forget_met.ensures past closed agree)
