use Rattle.std.proofs.Common.{ap, ◌∙◌}
use Rattle.endpoint_router.specs.Rows.{is_pending, row_at}
use Rattle.core_state.specs.Routers.{Routers, router_at}
use Rattle.core_state.proofs.routers.Routers.is_asked.Goals as goal

pub returns : goal.returns
returns c =
    c.is_asked.ensures
    ∙ ap (λ (r : Routers). is_pending (row_at (router_at r c.args.end) c.args.id) c.args.request c.args.method) c.self.view_is
