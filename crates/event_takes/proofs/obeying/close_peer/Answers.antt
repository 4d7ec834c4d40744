use Rattle.std.proofs.Common.{refl}
use Rattle.bind_model.specs.declared.told.Noted.TheVariants as noted
use Rattle.bind_model.specs.declared.commands.Command.TheVariants as commands
use Rattle.bind_model.specs.declared.commands.Reply.TheVariants as replies
use Rattle.core_taking.proofs.Obeying.{obey_done, obey_there}
use Rattle.event_tables.specs.AsCore.{state_of}
use Rattle.event_tables.proofs.Stepping.{steps_of}
use Rattle.event_takes.proofs.obeying.close_peer.Goals as goal

pub pop_front-front-requires : goal.pop_front-front-requires
pop_front-front-requires c =
    obey_there (state_of c.args.tables.now) c.args.seq c.requires.able c.args.end (noted.Closed c.args.id) c.requires.told

pub returns : goal.returns
returns c =
    steps_of (state_of c.args.tables.now) _ c.args.seq (commands.Take c.args.end) (replies.Control (noted.Closed c.args.id))
    (obey_done (state_of c.args.tables.now) c.args.seq c.requires.able c.args.end c.args.id c.requires.told _ refl refl refl refl c.push_reserved.ensures.events
    c.mark_peer.ensures c.pop_front-front.ensures.rest)
