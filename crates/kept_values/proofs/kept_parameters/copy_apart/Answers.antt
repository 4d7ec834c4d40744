use Rattle.std.proofs.Common.{ap, ◌∙◌}
use Rattle.wire_model.specs.Trees.{view}
use Rattle.kept_values.proofs.kept_parameters.copy_apart.Goals as goal

pub returns : goal.returns
returns c = ap view c.in_ok-apart.ensures ∙ c.in_ok-copy.ensures
