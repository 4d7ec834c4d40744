use Rattle.std.proofs.Common.{refl}
use Rattle.bind_model.specs.declared.commands.Command.TheVariants as commands
use Rattle.bind_model.specs.declared.commands.Reply.TheVariants as replies
use Rattle.core_sending.proofs.Waiting.{pause_done}
use Rattle.event_tables.specs.AsCore.{state_of}
use Rattle.event_tables.proofs.Stepping.{steps_of}
use Rattle.event_tables.proofs.waits.wait.Goals as goal

pub returns : goal.returns
returns c =
    let s = state_of c.args.tables.now in
    steps_of s _ c.args.seq (commands.Pause c.args.end c.args.other c.args.flush) replies.Pausing
    (pause_done s c.args.seq c.args.end c.args.other c.args.flush (record { able = c.requires.able; prepared = tt }) _ c.requires.free
    refl refl refl refl refl refl c.in_ok-wait.ensures.ok c.push_reserved.ensures.events)
