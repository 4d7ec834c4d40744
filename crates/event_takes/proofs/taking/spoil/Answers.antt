use Rattle.std.proofs.Common.{List, refl, subst}
use Rattle.handle_table.specs.declared.thing.Thing.{Thing}
use Rattle.message_pipe.specs.Contents.{Closes}
use Rattle.bind_model.specs.declared.commands.Command.TheVariants as commands
use Rattle.bind_model.specs.declared.commands.Reply.TheVariants as replies
use Rattle.core_taking.proofs.Taken.{bad_done}
use Rattle.event_tables.specs.AsCore.{state_of}
use Rattle.event_tables.proofs.Stepping.{steps_of}
use Rattle.event_takes.proofs.taking.spoil.Goals as goal

pub returns : goal.returns
returns c =
    let s = state_of c.args.tables.now in
    let goes = c.in_ok-goes.goes in
    steps_of s _ c.args.seq (commands.Take c.args.end) (replies.Bad c.args.why goes)
    (bad_done s _ c.args.seq c.requires.able refl refl c.args.end c.args.why goes goes refl c.requires.told c.in_ok-goes.ensures
    refl refl refl c.push_reserved.ensures.events
    (subst (λ (ts : List Thing). Closes ts s.pipes c.close.new.self) c.as_slice.ensures c.close.ensures))
