use Rattle.std.proofs.Common.{ap, ◌∙◌}
use Rattle.wire_view.specs.Parts.{number_of}
use Rattle.wire_view.proofs.absent.absent_number.Goals as goal

pub returns : goal.returns
returns c = c.as_number.ensures ∙ ap number_of c.absent_field.ensures.value
