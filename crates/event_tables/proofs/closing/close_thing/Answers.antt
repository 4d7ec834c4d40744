use Rattle.std.proofs.Common.{refl, sym, ◌∙◌, subst, List}
use Rattle.handle_table.specs.declared.thing.Thing.{Thing}
use Rattle.message_pipe.specs.Contents.{Closes}
use Rattle.bind_model.specs.declared.commands.Command.TheVariants as commands
use Rattle.bind_model.specs.declared.commands.Reply.TheVariants as replies
use Rattle.bind_model.specs.declared.commands.ToClose.TheVariants as close
use Rattle.core_ends.proofs.Doing.{handle_done}
use Rattle.event_tables.specs.AsCore.{state_of}
use Rattle.event_tables.proofs.Stepping.{steps_of}
use Rattle.event_tables.proofs.closing.close_thing.Goals as goal

pub returns : goal.returns
returns c =
    let s = state_of c.args.tables.now in
    let goes = c.in_ok-goes.goes in
    steps_of s _ c.args.seq (commands.Close (close.Handle c.args.thing)) (replies.Closed goes)
    (handle_done s _ c.args.seq c.requires refl refl refl refl goes goes refl c.args.thing c.put.new.self
    (sym c.is_out.ensures ∙ c.if-not-is_out.false) c.in_ok-goes.ensures refl c.push_reserved.ensures.events c.put.ensures
    (subst (λ (things : List Thing). Closes things c.put.new.self c.close.new.self) c.as_slice.ensures c.close.ensures))
