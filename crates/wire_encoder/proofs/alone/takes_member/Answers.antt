use Rattle.std.proofs.Common.{sym, ◌∙◌}
use Rattle.wire_encoder.proofs.AloneKinds.{enum_fits}
use Rattle.wire_encoder.proofs.alone.takes_member.Goals as goal

pub takes_number-requires : goal.takes_number-requires
takes_number-requires c = enum_fits _ (sym c.is_in_range.ensures ∙ c.if-is_in_range.true)
