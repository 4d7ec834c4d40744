use Rattle.std.proofs.Common.{◌∙◌, ap}
use Rattle.std.specs.Prelude.{Option}
use Rattle.mj_base.specs.declared.ids.EndId.{EndId}
use Rattle.mj_base.specs.declared.ids.SeqId.{SeqId}
use Rattle.core_state.specs.Agreement.{past_of}
use Rattle.bind_core.specs.steps.FirstTaken.{least_among}
use Rattle.bind_core.specs.Takers.{ready_taker}
use Rattle.bind_core.specs.Causes.{newest, woken}
use Rattle.bind_core.proofs.Covering.{ready_is}
use Rattle.bind_core.proofs.machine.Core.ready.Goals as goal

pub returns : goal.returns
returns c =
    let s = c.self.inside.state in
    rw (← c.self.view_is)
    (c.least_woken.ensures
    ∙ (ap (λ (found : Option (SeqId × EndId)). least_among (ready_taker s) found (woken c.self.inside.waiting (newest (past_of s))))
    c.first_taken-found.ensures.first
    ∙ ready_is s c.self.invariant.holds c.self.inside.watched c.self.inside.waiting c.self.invariant.covers c.first_taken-found.ensures.ascends))
