use Rattle.std.proofs.Common.{ap, sym, ◌∙◌}
use Rattle.endpoint_router.specs.Rows.{endpoints_of}
use Rattle.endpoint_router.specs.Table.{Table, router_of}
use Rattle.endpoint_router.proofs.Tables.{endpoint_is}
use Rattle.endpoint_router.proofs.table.EndpointTableEndpoints.find.Goals as goal

pub returns : goal.returns
returns c =
    c.find.ensures
    ∙ (sym (endpoint_is c.self.inside.index c.self.inside.rows.slots c.self.inside.drawn c.args.end c.args.id)
    ∙ ap (λ (t : Table). endpoints_of (router_of t c.args.end) c.args.id) c.self.view_is)
