use Rattle.std.proofs.Common.{[], refl}
use Rattle.wire_encoder.specs.declared.endpoint.EndpointSide.TheVariants.{Remote}
use Rattle.bind_model.specs.Pendings.{Half}
use Rattle.bind_model.specs.declared.commands.Command.TheVariants as commands
use Rattle.bind_model.specs.declared.commands.Reply.TheVariants as replies
use Rattle.bind_model.specs.declared.commands.ToClose.TheVariants as close
use Rattle.core_ends.proofs.Unbinding.{close_row, received_done, tell_named, tell_peer_there}
use Rattle.event_tables.specs.AsCore.{state_of}
use Rattle.event_tables.proofs.Stepping.{steps_of}
use Rattle.event_tables.proofs.unsent.close_received.Goals as goal

pub tell_peer-requires-clause-named : goal.tell_peer-requires-clause-named
tell_peer-requires-clause-named c =
    tell_named (state_of c.args.tables.now) c.args.seq c.requires.able c.args.id c.requires.held c.requires.received

pub tell_peer-requires-clause-peer : goal.tell_peer-requires-clause-peer
tell_peer-requires-clause-peer c =
    tell_peer_there (state_of c.args.tables.now) c.args.seq c.requires.able c.args.id c.requires.held c.requires.received

pub turn-requires : goal.turn-requires
turn-requires c = close_row (state_of c.args.tables.now) c.args.seq c.requires.able c.args.id c.requires.held c.requires.received

-- of a pending only the name is asked
pub returns : goal.returns
returns c =
    let s = state_of c.args.tables.now in
    let half : Half = record { name = c.args.id; side = Remote; interface = 0 } in
    steps_of s _ c.args.seq (commands.Close (close.Pending half)) (replies.Closed [])
    (received_done s c.args.seq c.requires.able c.args.id c.requires.held c.requires.received _ half c.new.result [] refl c.new.ensures refl
    refl refl refl refl c.in_ok-tell_peer.ensures c.turn.ensures c.remove.ensures c.push_reserved.ensures.events)
