use Rattle.std.proofs.Common.{◌∙◌, List, ap}
use Rattle.std.specs.Prelude.{None, Some}
use Rattle.end_notices.specs.declared.waits.Wait.{Wait}
use Rattle.core_state.specs.steps.Paused.{unmet_in}
use Rattle.core_state.proofs.Pausing.{paused_at}
use Rattle.core_state.proofs.paused.paused_by.Goals as goal

pub returns-in-Some : goal.returns-in-Some
returns-in-Some c =
    c.unmet.ensures
    ∙ (ap (λ (ws : List Wait). unmet_in c.args.state.now ws) c.waits.ensures
    ∙ paused_at c.args.state.now c.requires c.args.end (Some c.in-Some.notices.now) c.in-Some.ensures)

pub returns-in-None : goal.returns-in-None
returns-in-None c = paused_at c.args.state.now c.requires c.args.end None c.in-None.ensures
