use Rattle.std.proofs.Common.{refl}
use Rattle.core_ends.proofs.Shutting.{shut_done, shut_named, shut_peer, shut_row}
use Rattle.core_ends.proofs.close.close_one.Goals as goal

pub emit_one-requires-clause-named : goal.emit_one-requires-clause-named
emit_one-requires-clause-named c =
    shut_named c.args.state.now c.args.seq c.requires.able c.args.end c.args.id c.requires.here c.requires.other

pub emit_one-requires-clause-peer : goal.emit_one-requires-clause-peer
emit_one-requires-clause-peer c = shut_peer c.args.state.now c.args.seq c.requires.able c.args.end c.args.id c.requires.here

pub turn-requires : goal.turn-requires
turn-requires c = shut_row c.args.state.now c.args.seq c.requires.able c.args.end c.args.id c.requires.here

pub returns-clause-done : goal.returns-clause-done
returns-clause-done c =
    shut_done c.args.state.now c.args.seq c.requires.able c.args.end c.args.id c.requires.here c.requires.other _ c.new.result c.new-2.result
    c.new.ensures c.new-2.ensures refl refl refl refl c.requires.told c.in_ok-emit_one.ensures.ok c.turn.ensures c.push_reserved.ensures.events
