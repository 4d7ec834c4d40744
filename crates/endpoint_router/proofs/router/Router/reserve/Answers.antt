use Rattle.std.proofs.Common.{arith}
use Rattle.std.proofs.lemmas.Grind.{common_steps}
use Rattle.endpoint_router.proofs.Placed.{found}
use Rattle.endpoint_router.proofs.router.Router.reserve.Goals as goal

pub returns-clause-rows : goal.returns-clause-rows
returns-clause-rows c = λ n. rw (found _ n, ← c.self.view_is, found c.self.inside.rows n) (grind (arith, common_steps))

pub returns-clause-ok : goal.returns-clause-ok
returns-clause-ok c = λ n. rw (found _ n, ← c.self.view_is, found c.self.inside.rows n) (grind (arith, common_steps))
