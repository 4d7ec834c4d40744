use Rattle.std.proofs.Common.{subst, sym}
use Rattle.std.specs.Prelude.{IsSome}
use Rattle.endpoint_router.specs.Rows.{row_at}
use Rattle.endpoint_router.specs.Turns.{IsSame}
use Rattle.core_state.specs.Routers.{Routers, router_at}
use Rattle.core_state.proofs.routers.Routers.reserve_draw.Goals as goal

pub reserve_draw-requires : goal.reserve_draw-requires
reserve_draw-requires c = subst (λ (r : Routers). IsSome (row_at (router_at r c.args.end) c.args.id)) (sym c.self.view_is) c.requires

pub returns-clause-same : goal.returns-clause-same
returns-clause-same c = λ x.
    subst (λ (r : Routers). IsSame (router_at r x) (router_at c.reserve_draw.new.self x)) c.self.view_is (c.reserve_draw.ensures.same x)

pub returns-clause-room : goal.returns-clause-room
returns-clause-room c = c.reserve_draw.ensures.room
