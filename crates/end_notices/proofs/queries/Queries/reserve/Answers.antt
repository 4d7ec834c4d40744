use Rattle.std.proofs.Common.{arith}
use Rattle.std.proofs.lemmas.Grind.{common_steps}
use Rattle.end_notices.proofs.Counts.{found}
use Rattle.end_notices.proofs.queries.Queries.reserve.Goals as goal

pub returns-clause-same : goal.returns-clause-same
returns-clause-same c = λ n. rw (found _ n, ← c.self.view_is, found c.self.inside.counts n) (grind (arith, common_steps))
