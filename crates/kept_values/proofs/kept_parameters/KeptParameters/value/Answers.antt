use Rattle.std.proofs.Common.{◌∙◌}
use Rattle.kept_values.proofs.kept_parameters.KeptParameters.value.Goals as goal

pub returns : goal.returns
returns c = c.in_ok-value.ensures ∙ c.self.view_is
