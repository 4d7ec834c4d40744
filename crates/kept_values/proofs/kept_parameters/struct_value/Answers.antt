use Rattle.std.proofs.Common.{List, ap, ◌∙◌}
use Rattle.wire_model.specs.Trees.{Tree, Fields, trees}
use Rattle.kept_values.proofs.kept_parameters.struct_value.Goals as goal

pub returns : goal.returns
returns c = c.struct_of.ensures ∙ ap (λ (ts : List Tree). Fields (trees ts)) c.in_ok-fields.ensures
