use Rattle.std.proofs.Common.{ap, ◌∙◌}
use Rattle.bind_model.specs.declared.told.Got.{Got}
use Rattle.bind_core.proofs.waits.gone_in.Goals as goal

pub returns : goal.returns
returns c = c.as_slice.ensures ∙ ap (λ (g : Got). g.gone) c.get.ensures
