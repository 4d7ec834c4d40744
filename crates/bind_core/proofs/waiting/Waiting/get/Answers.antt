use Rattle.std.proofs.Common.{ap, sym, ◌∙◌}
use Rattle.bind_core.specs.Causes.{Lists, list_of}
use Rattle.bind_core.proofs.CauseLists.{found}
use Rattle.bind_core.proofs.waiting.Waiting.get.Goals as goal

pub returns : goal.returns
returns c =
    c.get.ensures.value
    ∙ (sym (found c.self.inside.lists c.args.cause) ∙ ap (λ (lists : Lists). list_of lists c.args.cause) c.self.view_is)
