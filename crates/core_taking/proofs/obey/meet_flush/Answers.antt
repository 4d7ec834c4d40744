use Rattle.std.proofs.Common.{refl}
use Rattle.bind_model.specs.declared.told.Noted.TheVariants as noted
use Rattle.core_taking.proofs.Obeying.{flush_done, obey_there}
use Rattle.core_taking.proofs.obey.meet_flush.Goals as goal

pub pop_front-front-requires : goal.pop_front-front-requires
pop_front-front-requires c =
    obey_there c.args.state.now c.args.seq c.requires.able c.args.end (noted.Flushed c.args.flush) c.requires.told

pub returns-clause-done : goal.returns-clause-done
returns-clause-done c =
    flush_done c.args.state.now c.args.seq c.requires.able c.args.end c.args.flush c.requires.told _ refl refl refl
    c.push_reserved.ensures.events refl refl c.in-Ok.ensures.ok c.pop_front-front.ensures.rest
