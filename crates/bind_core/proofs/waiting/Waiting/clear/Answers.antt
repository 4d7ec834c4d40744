use Rattle.std.proofs.Common.{[], ap, ◌∙◌}
use Rattle.std.specs.Prelude.{if◌then◌else◌}
use Rattle.bind_core.specs.Causes.{Lists, ends_for, same_cause}
use Rattle.bind_core.proofs.CauseLists.{cleared}
use Rattle.bind_core.proofs.waiting.Waiting.clear.Goals as goal

pub returns : goal.returns
returns c other =
    cleared c.self.inside.lists c.remove.new.self c.args.cause c.remove.ensures.updates other
    ∙ ap (λ (lists : Lists). if same_cause c.args.cause other then [] else ends_for lists other) c.self.view_is
