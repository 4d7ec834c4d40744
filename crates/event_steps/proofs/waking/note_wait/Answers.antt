use Rattle.std.proofs.Common.{subst, sym}
use Rattle.std.specs.Prelude.{OnOk}
use Rattle.plain_names.specs.Commands.{asked_in}
use Rattle.plain_names.specs.declared.commands.PlainCommand.{PlainCommand}
use Rattle.event_steps.specs.steps.Near.{NotesWait}
use Rattle.event_steps.proofs.Covering.{no_wait}
use Rattle.event_steps.proofs.waking.note_wait.Goals as goal

pub returns-in-Pause-clause-noted : goal.returns-in-Pause-clause-noted
returns-in-Pause-clause-noted c =
    subst (λ (command : PlainCommand). OnOk c.note.result (NotesWait c.note.new.waiting (asked_in command))) (sym c.in-Pause.is) c.note.ensures.noted

pub returns-in_default-clause-noted : goal.returns-in_default-clause-noted
returns-in_default-clause-noted c = no_wait c.args.waiting.now c.args.command.now c.in_default.not-Pause
