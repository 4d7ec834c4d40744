use Rattle.std.proofs.Common.{Some, refl}
use Rattle.bind_model.specs.declared.commands.Command.TheVariants as commands
use Rattle.bind_model.specs.declared.commands.Reply.TheVariants as replies
use Rattle.bind_model.specs.declared.told.Noted.TheVariants as noted
use Rattle.core_taking.proofs.Answering.{answer_done, asked_named, asked_peer, asked_there}
use Rattle.event_tables.specs.AsCore.{state_of}
use Rattle.event_tables.proofs.Stepping.{steps_of}
use Rattle.event_takes.proofs.obeying.tell_version.Goals as goal

pub emit_version-requires-clause-named : goal.emit_version-requires-clause-named
emit_version-requires-clause-named c =
    asked_named (state_of c.args.tables.now) c.args.seq c.requires.able c.args.end c.args.id c.args.version c.requires.told

pub emit_version-requires-clause-peer : goal.emit_version-requires-clause-peer
emit_version-requires-clause-peer c =
    asked_peer (state_of c.args.tables.now) c.args.seq c.requires.able c.args.end c.args.id c.args.version c.requires.told

pub pop_front-front-requires : goal.pop_front-front-requires
pop_front-front-requires c =
    asked_there (state_of c.args.tables.now) c.args.seq c.requires.able c.args.end c.args.id c.args.version c.requires.told
    _ c.emit_version.new.pipes c.in_ok-emit_version.ensures

pub returns : goal.returns
returns c =
    steps_of (state_of c.args.tables.now) _ c.args.seq (commands.Take c.args.end) (replies.Control (noted.Queried c.args.id (Some c.args.version)))
    (answer_done (state_of c.args.tables.now) c.args.seq c.requires.able c.args.end c.args.id c.args.version c.requires.told
    _ c.emit_version.new.pipes refl refl refl refl c.push_reserved.ensures.events refl c.in_ok-emit_version.ensures c.pop_front-front.ensures.rest)
