use Rattle.std.proofs.Common.{List, subst}
use Rattle.mj_base.specs.declared.ids.EndId.{EndId}
use Rattle.bind_core.specs.steps.FirstTaken.{Ascends}
use Rattle.bind_core.proofs.EndOrder.{ascends}
use Rattle.event_steps.proofs.watched.Watched.first_taken.Goals as goal

pub returns-in-Some-ready_taker-clause-ascends : goal.returns-in-Some-ready_taker-clause-ascends
returns-in-Some-ready_taker-clause-ascends c =
    subst (λ (ends : List EndId). Ascends ends) c.self.view_is (ascends c.self.inside.ends.keys c.iter-end-items.ensures.ordered)

pub returns-clause-ascends : goal.returns-clause-ascends
returns-clause-ascends c =
    subst (λ (ends : List EndId). Ascends ends) c.self.view_is (ascends c.self.inside.ends.keys c.iter-end-items.ensures.ordered)
