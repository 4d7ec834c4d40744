use Rattle.std.proofs.Common.{arith}
use Rattle.std.proofs.lemmas.Grind.{common_steps}
use Rattle.endpoint_router.proofs.Placed.{found}
use Rattle.endpoint_router.proofs.requests.Requests.reserve.Goals as goal

pub returns-clause-same : goal.returns-clause-same
returns-clause-same c = λ number method.
    rw (found _ number, ← c.self.view_is, found c.self.inside.methods number) (grind (arith, common_steps))
