use Rattle.std.proofs.Common.{refl}
use Rattle.bind_model.specs.declared.told.Noted.TheVariants as noted
use Rattle.core_taking.proofs.Obeying.{obey_there, query_done, query_some}
use Rattle.core_taking.proofs.obey.end_query.Goals as goal

pub pop_front-front-requires : goal.pop_front-front-requires
pop_front-front-requires c =
    obey_there c.args.state.now c.args.seq c.requires.able c.args.end (noted.Version c.args.id c.args.version) c.requires.told

pub answer-requires : goal.answer-requires
answer-requires c = query_some c.args.state.now c.args.seq c.requires.able c.args.end c.args.id c.args.version c.requires.told

pub returns : goal.returns
returns c =
    query_done c.args.state.now c.args.seq c.requires.able c.args.end c.args.id c.args.version c.requires.told _ refl refl refl
    c.push_reserved.ensures.events refl refl c.answer.ensures c.pop_front-front.ensures.rest
