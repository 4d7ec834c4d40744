use Rattle.std.proofs.Common.{refl}
use Rattle.wire_encoder.specs.declared.endpoint.EndpointSide.TheVariants.{Remote}
use Rattle.bind_model.specs.Pendings.{Half}
use Rattle.bind_model.specs.declared.commands.Command.TheVariants as commands
use Rattle.bind_model.specs.declared.commands.Reply.TheVariants as replies
use Rattle.core_ends.proofs.Pended.{attach_done, may_attach}
use Rattle.event_tables.specs.AsCore.{state_of}
use Rattle.event_tables.proofs.Stepping.{steps_of}
use Rattle.event_tables.proofs.binding.attach_free.Goals as goal

pub turn-requires : goal.turn-requires
turn-requires c = may_attach (state_of c.args.tables.now) c.args.seq c.requires.able c.args.id c.args.on c.requires.free

-- of a pending only the name is asked
pub returns : goal.returns
returns c =
    let s = state_of c.args.tables.now in
    let half : Half = record { name = c.args.id; side = Remote; interface = 0 } in
    steps_of s _ c.args.seq (commands.Attach half c.args.on) (replies.Attached c.args.id.id)
    (attach_done s c.args.seq c.requires.able c.args.id c.args.on c.requires.free _ half refl refl refl refl refl refl c.turn.ensures c.remove.ensures
    c.push_reserved.ensures.events)
