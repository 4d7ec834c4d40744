use Rattle.std.proofs.Common.{refl, subst, List}
use Rattle.handle_table.specs.declared.thing.Thing.{Thing}
use Rattle.message_pipe.specs.Contents.{Closes}
use Rattle.bind_model.specs.declared.commands.Command.TheVariants as commands
use Rattle.bind_model.specs.declared.commands.Reply.TheVariants as replies
use Rattle.bind_model.specs.declared.commands.ToClose.TheVariants as close
use Rattle.core_ends.proofs.Doing.{end_done}
use Rattle.event_tables.specs.AsCore.{state_of}
use Rattle.event_tables.proofs.Stepping.{steps_of}
use Rattle.event_tables.proofs.closing.close_end.Goals as goal

pub returns : goal.returns
returns c =
    let s = state_of c.args.tables.now in
    let goes = c.in_ok-goes.goes in
    steps_of s _ c.args.seq (commands.Close (close.Endpoint c.args.end 0)) (replies.Closed goes)
    (end_done s _ c.args.seq c.requires.able refl refl refl refl goes goes refl c.args.end
    c.requires.told c.in_ok-goes.ensures c.turn.ensures c.push_reserved.ensures.events
    (subst (λ (things : List Thing). Closes things s.pipes c.close.new.self) c.as_slice.ensures c.close.ensures))
