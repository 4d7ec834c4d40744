use Rattle.endpoint_router.proofs.Placed.{asked_less}
use Rattle.endpoint_router.proofs.requests.Requests.remove.Goals as goal

pub returns : goal.returns
returns c = λ number method.
    rw (← c.self.view_is) (asked_less c.self.inside.methods c.remove.new.self c.args.request c.remove.ensures.updates number method)
