use Rattle.mj_base.proofs.compare.before_dot.Goals as goal

pub returns : goal.returns
returns c = c.before-2.ensures
