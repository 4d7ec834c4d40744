use Rattle.bind_core.proofs.waits.forget_all.Goals as goal

pub returns-in-Some : goal.returns-in-Some
returns-in-Some c = λ past closed agree. c.forget_near.ensures past closed (c.forget_each.ensures past closed agree)
