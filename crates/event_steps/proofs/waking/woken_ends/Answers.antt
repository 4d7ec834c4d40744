use Rattle.std.proofs.Common.{ap, ◌∙◌}
use Rattle.std.proofs.lemmas.Result.{IfOk-weaker}
use Rattle.bind_core.specs.Causes.{woken}
use Rattle.event_steps.proofs.waking.woken_ends.Goals as goal

pub returns-in-Some : goal.returns-in-Some
returns-in-Some c =
    IfOk-weaker c.woken_by.result _ _ (λ ends e. e ∙ ap (woken c.args.waiting.now) c.in-Some.ensures) c.woken_by.ensures

pub returns-in-None : goal.returns-in-None
returns-in-None c = c.new.ensures.items ∙ ap (woken c.args.waiting.now) c.in-None.ensures
