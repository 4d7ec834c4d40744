use Rattle.std.proofs.Common.{ap}
use Rattle.wire_model.specs.Trees.{Text}
use Rattle.kept_values.proofs.kept_parameters.text_part.Goals as goal

pub returns : goal.returns
returns c = ap Text c.in_ok-bytes.ensures.items
