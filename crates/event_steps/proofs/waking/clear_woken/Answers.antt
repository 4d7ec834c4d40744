use Rattle.std.proofs.Common.{subst}
use Rattle.std.specs.Prelude.{Option}
use Rattle.bind_core.specs.Causes.{Spares, causes_in}
use Rattle.bind_model.specs.declared.event.Event.{Event}
use Rattle.event_steps.proofs.waking.clear_woken.Goals as goal

pub returns-in-Some : goal.returns-in-Some
returns-in-Some c =
    subst (λ (last : Option Event). Spares (causes_in last) c.args.waiting.now c.clear_event.new.waiting) c.in-Some.ensures c.clear_event.ensures
