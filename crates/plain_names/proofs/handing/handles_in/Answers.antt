use Rattle.std.proofs.Common.{ap, ◌∙◌}
use Rattle.bind_model.specs.declared.told.Got.{Got}
use Rattle.plain_names.proofs.handing.handles_in.Goals as goal

pub returns : goal.returns
returns c = c.as_slice.ensures ∙ ap (λ (g : Got). g.handles) c.get.ensures
