use Rattle.std.proofs.Common.{ap, ◌∙◌}
use Rattle.wire_model.specs.Trees.{Text}
use Rattle.kept_values.proofs.kept_parameters.text_value.Goals as goal

pub returns : goal.returns
returns c = c.text_of.ensures ∙ ap Text c.in_ok-text.ensures.items
