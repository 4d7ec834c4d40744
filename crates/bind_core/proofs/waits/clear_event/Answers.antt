use Rattle.std.proofs.Common.{[], ap, ◌∙◌}
use Rattle.std.specs.Prelude.{Bool, if◌then◌else◌}
use Rattle.bind_core.specs.Causes.{ends_for}
use Rattle.bind_core.proofs.Waking.{spared_one}
use Rattle.bind_core.proofs.waits.clear_event.Goals as goal

pub returns-in-Some : goal.returns-in-Some
returns-in-Some c = λ other h.
    c.clear.ensures other
    ∙ ap (λ (b : Bool). if b then [] else ends_for c.args.waiting.now other)
    (spared_one c.args.event.now.told c.args.event.now.asked c.flush_of.result c.in-Some.cause other c.flush_of.ensures c.in-Some.is h)
