use Rattle.mj_base.proofs.Backs.{no_outer, outer_is}
use Rattle.mj_base.proofs.compare.outer_of.Goals as goal

pub returns-in-Some : goal.returns-in-Some
returns-in-Some c = outer_is c.args.name.now c.args.bytes.now c.in-Some.rest.now c.before_dot.result c.in-Some.ensures c.before_dot.ensures

pub returns-in-None : goal.returns-in-None
returns-in-None c = no_outer c.args.name.now c.args.bytes.now c.in-None.ensures
