use Rattle.std.proofs.Common.{refl}
use Rattle.bind_model.specs.declared.told.Noted.TheVariants as noted
use Rattle.core_taking.proofs.Obeying.{obey_done, obey_there}
use Rattle.core_taking.proofs.obey.close_peer.Goals as goal

pub pop_front-front-requires : goal.pop_front-front-requires
pop_front-front-requires c =
    obey_there c.args.state.now c.args.seq c.requires.able c.args.end (noted.Closed c.args.id) c.requires.told

pub returns : goal.returns
returns c =
    obey_done c.args.state.now c.args.seq c.requires.able c.args.end c.args.id c.requires.told _ refl refl refl refl c.push_reserved.ensures.events
    c.mark_peer.ensures c.pop_front-front.ensures.rest
