use Rattle.std.proofs.Common.{subst, sym}
use Rattle.std.specs.Prelude.{OnOk}
use Rattle.bind_model.specs.declared.commands.Command.{Command}
use Rattle.bind_core.specs.Causes.{IsNoted}
use Rattle.bind_core.proofs.waits.note_wait.Goals as goal

pub returns-in-Pause-clause-noted : goal.returns-in-Pause-clause-noted
returns-in-Pause-clause-noted c =
    subst (λ (command : Command). OnOk c.note.result (IsNoted c.note.new.waiting command)) (sym c.in-Pause.is) c.note.ensures.noted
