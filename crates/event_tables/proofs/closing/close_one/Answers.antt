use Rattle.std.proofs.Common.{[], refl}
use Rattle.bind_model.specs.declared.commands.Command.TheVariants as commands
use Rattle.bind_model.specs.declared.commands.Reply.TheVariants as replies
use Rattle.bind_model.specs.declared.commands.ToClose.TheVariants as close
use Rattle.core_ends.proofs.Shutting.{shut_done, shut_named, shut_peer, shut_row}
use Rattle.event_tables.specs.AsCore.{state_of}
use Rattle.event_tables.proofs.Stepping.{steps_of}
use Rattle.event_tables.proofs.closing.close_one.Goals as goal

pub emit_closed-requires-clause-named : goal.emit_closed-requires-clause-named
emit_closed-requires-clause-named c =
    shut_named (state_of c.args.tables.now) c.args.seq c.requires.able c.args.end c.args.id c.requires.here c.requires.other

pub emit_closed-requires-clause-peer : goal.emit_closed-requires-clause-peer
emit_closed-requires-clause-peer c = shut_peer (state_of c.args.tables.now) c.args.seq c.requires.able c.args.end c.args.id c.requires.here

pub turn-requires : goal.turn-requires
turn-requires c = shut_row (state_of c.args.tables.now) c.args.seq c.requires.able c.args.end c.args.id c.requires.here

pub returns : goal.returns
returns c =
    let s = state_of c.args.tables.now in
    steps_of s _ c.args.seq (commands.Close (close.Endpoint c.args.end c.args.id)) (replies.Closed [])
    (shut_done s c.args.seq c.requires.able c.args.end c.args.id c.requires.here c.requires.other _ c.new.result []
    c.new.ensures refl refl refl refl refl c.requires.told c.in_ok-emit_closed.ensures c.turn.ensures c.push_reserved.ensures.events)
