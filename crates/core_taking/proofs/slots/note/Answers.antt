use Rattle.std.proofs.Common.{sym, ◌∙◌}
use Rattle.core_taking.proofs.SlotsNoted.{taken_stays, vacant_filled}
use Rattle.core_taking.proofs.slots.note.Goals as goal

pub returns-then-is_vacant : goal.returns-then-is_vacant
returns-then-is_vacant c = vacant_filled c.args.slots.now c.args.index c.args.wanted (sym c.is_vacant.ensures ∙ c.if-is_vacant.true)

pub returns-else-is_vacant : goal.returns-else-is_vacant
returns-else-is_vacant c = taken_stays c.args.slots.now c.args.index c.args.wanted (sym c.is_vacant.ensures ∙ c.if-is_vacant.false)
