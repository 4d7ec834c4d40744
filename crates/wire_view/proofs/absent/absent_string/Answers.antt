use Rattle.std.proofs.Common.{ap, ◌∙◌}
use Rattle.wire_view.specs.Parts.{text_of}
use Rattle.wire_view.proofs.absent.absent_string.Goals as goal

pub returns : goal.returns
returns c = c.as_string.ensures ∙ ap text_of c.absent_field.ensures.value
