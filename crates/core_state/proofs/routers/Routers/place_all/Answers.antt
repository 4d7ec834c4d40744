use Rattle.std.proofs.Common.{subst, sym}
use Rattle.std.specs.Prelude.{IsSome}
use Rattle.endpoint_router.specs.Rows.{row_at}
use Rattle.core_state.specs.Routers.{Routers, router_at}
use Rattle.core_state.specs.steps.Same.{AllSame}
use Rattle.core_state.proofs.routers.Routers.place_all.Goals as goal

pub place_all-requires : goal.place_all-requires
place_all-requires c = subst (λ (r : Routers). IsSome (row_at (router_at r c.args.end) 0)) (sym c.self.view_is) c.requires

pub returns-clause-same : goal.returns-clause-same
returns-clause-same c = subst (λ (r : Routers). AllSame r c.place_all.new.table) c.self.view_is c.place_all.ensures.same

pub returns-clause-places : goal.returns-clause-places
returns-clause-places c = c.place_all.ensures.places
