use Rattle.std.proofs.Common.{◌∙◌, List, ap}
use Rattle.std.specs.Prelude.{None, Some}
use Rattle.end_notices.specs.declared.waits.Wait.{Wait}
use Rattle.core_state.specs.steps.Paused.{unmet_in}
use Rattle.core_state.proofs.Pausing.{paused_at}
use Rattle.event_tables.specs.AsCore.{state_of}
use Rattle.event_takes.proofs.taking.paused_by.Goals as goal

pub returns-in-Some : goal.returns-in-Some
returns-in-Some c =
    c.unmet.ensures
    ∙ (ap (λ (ws : List Wait). unmet_in (state_of c.args.tables.now) ws) c.waits.ensures
    ∙ paused_at (state_of c.args.tables.now) c.requires c.args.end (Some c.in-Some.notices.now) c.in-Some.ensures)

pub returns-in-None : goal.returns-in-None
returns-in-None c = paused_at (state_of c.args.tables.now) c.requires c.args.end None c.in-None.ensures
