use Rattle.std.proofs.Common.{refl}
use Rattle.core_taking.proofs.Answering.{answer_done, asked_named, asked_peer, asked_there}
use Rattle.core_taking.proofs.obey.tell_version.Goals as goal

pub emit_version-requires-clause-named : goal.emit_version-requires-clause-named
emit_version-requires-clause-named c =
    asked_named c.args.state.now c.args.seq c.requires.able c.args.end c.args.id c.args.version c.requires.told

pub emit_version-requires-clause-peer : goal.emit_version-requires-clause-peer
emit_version-requires-clause-peer c =
    asked_peer c.args.state.now c.args.seq c.requires.able c.args.end c.args.id c.args.version c.requires.told

pub pop_front-front-requires : goal.pop_front-front-requires
pop_front-front-requires c =
    asked_there c.args.state.now c.args.seq c.requires.able c.args.end c.args.id c.args.version c.requires.told
    _ c.emit_version.new.pipes c.in-Ok.ensures.ok

pub returns-clause-done : goal.returns-clause-done
returns-clause-done c =
    answer_done c.args.state.now c.args.seq c.requires.able c.args.end c.args.id c.args.version c.requires.told
    _ c.emit_version.new.pipes refl refl refl refl c.push_reserved.ensures.events refl c.in-Ok.ensures.ok c.pop_front-front.ensures.rest
