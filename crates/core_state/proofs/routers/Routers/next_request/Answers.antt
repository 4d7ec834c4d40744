use Rattle.std.proofs.Common.{ap, ◌∙◌}
use Rattle.endpoint_router.specs.Rows.{next_number, row_at}
use Rattle.core_state.specs.Routers.{Routers, router_at}
use Rattle.core_state.proofs.routers.Routers.next_request.Goals as goal

pub returns : goal.returns
returns c = c.next_request.ensures ∙ ap (λ (r : Routers). next_number (row_at (router_at r c.args.end) c.args.id)) c.self.view_is
