use Rattle.std.proofs.Common.{◌∙◌}
use Rattle.end_notices.proofs.table.NoticeTable.reserve.Goals as goal

pub returns-clause-same : goal.returns-clause-same
returns-clause-same c = λ x. c.reserve_in.ensures.same x ∙ c.place.ensures.same x
