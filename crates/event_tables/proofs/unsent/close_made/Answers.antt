use Rattle.std.proofs.Common.{[], refl}
use Rattle.wire_encoder.specs.declared.endpoint.EndpointSide.TheVariants.{Remote}
use Rattle.bind_model.specs.Pendings.{Half}
use Rattle.bind_model.specs.declared.commands.Command.TheVariants as commands
use Rattle.bind_model.specs.declared.commands.Reply.TheVariants as replies
use Rattle.bind_model.specs.declared.commands.ToClose.TheVariants as close
use Rattle.core_ends.proofs.Retiring.{row_here, unsent_done}
use Rattle.event_tables.specs.AsCore.{state_of}
use Rattle.event_tables.proofs.Stepping.{steps_of}
use Rattle.event_tables.proofs.unsent.close_made.Goals as goal

pub turn-requires : goal.turn-requires
turn-requires c = row_here (state_of c.args.tables.now) c.args.seq c.requires.able c.args.id c.requires.held c.requires.made

-- of a pending only the name is asked
pub returns : goal.returns
returns c =
    let s = state_of c.args.tables.now in
    let half : Half = record { name = c.args.id; side = Remote; interface = 0 } in
    steps_of s _ c.args.seq (commands.Close (close.Pending half)) (replies.Closed [])
    (unsent_done s c.args.seq c.requires.able c.args.id c.requires.held c.requires.made _ half c.new.result [] refl c.new.ensures refl
    refl refl refl refl refl c.turn.ensures c.remove.ensures c.push_reserved.ensures.events)
