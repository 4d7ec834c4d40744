use Rattle.std.proofs.Common.{List, ap}
use Rattle.wire_model.specs.Trees.{Tree, Fields, trees}
use Rattle.kept_values.proofs.kept_parameters.hold_struct.Goals as goal

pub returns : goal.returns
returns c = ap (λ (ts : List Tree). Fields (trees ts)) c.in_ok-parts.ensures
