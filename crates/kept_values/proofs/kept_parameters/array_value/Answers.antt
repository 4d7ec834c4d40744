use Rattle.std.proofs.Common.{List, ap, ◌∙◌}
use Rattle.wire_model.specs.Trees.{Tree, Items, trees}
use Rattle.kept_values.proofs.kept_parameters.array_value.Goals as goal

pub returns : goal.returns
returns c = c.list_of.ensures ∙ ap (λ (ts : List Tree). Items (trees ts)) c.in_ok-values.ensures
