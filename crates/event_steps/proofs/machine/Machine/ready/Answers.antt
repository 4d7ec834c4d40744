use Rattle.std.proofs.Common.{◌∙◌}
use Rattle.event_tables.specs.AsCore.{state_of}
use Rattle.event_steps.proofs.Covering.{first_ready}
use Rattle.event_steps.proofs.machine.Machine.ready.Goals as goal

pub returns : goal.returns
returns c =
    c.first_taken.ensures.first
    ∙ first_ready (state_of c.args.self.now.tables) c.requires.holds c.args.self.now.watched c.requires.covers c.first_taken.ensures.ascends
