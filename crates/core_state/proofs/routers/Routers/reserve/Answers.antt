use Rattle.std.proofs.Common.{subst, sym}
use Rattle.std.specs.Prelude.{IsSome}
use Rattle.endpoint_router.specs.Rows.{row_at}
use Rattle.endpoint_router.specs.Turns.{IsSame}
use Rattle.core_state.specs.Routers.{Routers, router_at}
use Rattle.core_state.proofs.routers.Routers.reserve.Goals as goal

pub reserve-requires : goal.reserve-requires
reserve-requires c = subst (λ (r : Routers). IsSome (row_at (router_at r c.args.end) 0)) (sym c.self.view_is) c.requires

pub returns-clause-same : goal.returns-clause-same
returns-clause-same c = λ x.
    subst (λ (r : Routers). IsSame (router_at r x) (router_at c.reserve.new.self x)) c.self.view_is (c.reserve.ensures.same x)

pub returns-clause-room : goal.returns-clause-room
returns-clause-room c = c.reserve.ensures.there
