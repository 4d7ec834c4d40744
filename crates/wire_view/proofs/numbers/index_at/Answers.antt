use Rattle.std.proofs.Common.{ap, ◌∙◌}
use Rattle.wire_view.specs.steps.SlotNumbers.{index_number}
use Rattle.wire_view.proofs.numbers.index_at.Goals as goal

pub returns : goal.returns
returns c = c.index_number.ensures ∙ ap index_number c.le32.ensures
