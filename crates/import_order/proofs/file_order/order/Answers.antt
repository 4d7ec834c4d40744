use Rattle.std.proofs.Common.{sym, subst}
use Rattle.import_order.specs.steps.Taking.{AreTexts}
use Rattle.import_order.proofs.file_order.order.Goals as goal

pub order_by-requires-clause-texts : goal.order_by-requires-clause-texts
order_by-requires-clause-texts c = subst AreTexts (sym c.in_ok-table.ensures.are) c.in_ok-table.ensures.texts
