use Rattle.std.proofs.Common.{ap, sym, ◌∙◌}
use Rattle.wire_model.specs.Absent.{has_zero}
use Rattle.schema_rows.proofs.enums.first_number.Goals as goal

pub first_unless-requires : goal.first_unless-requires
first_unless-requires c = c.has_number.ensures ∙ ap has_zero (sym c.as_slice.ensures)
