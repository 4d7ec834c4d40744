use Rattle.std.proofs.Common.{refl}
use Rattle.core_taking.proofs.Obeying.{heed_done, obey_there}
use Rattle.core_taking.proofs.obey.heed.Goals as goal

pub pop_front-front-requires : goal.pop_front-front-requires
pop_front-front-requires c = obey_there c.args.state.now c.args.seq c.requires.able c.args.end c.args.said c.requires.told

pub returns : goal.returns
returns c =
    heed_done c.args.state.now c.args.seq c.requires.able c.args.end c.args.said c.requires.told c.requires.silent _ refl refl refl refl
    c.push_reserved.ensures.events refl c.pop_front-front.ensures.rest
