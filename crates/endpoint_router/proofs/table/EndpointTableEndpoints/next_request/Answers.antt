use Rattle.std.proofs.Common.{ap, sym, ◌∙◌}
use Rattle.endpoint_router.specs.Rows.{next_number, row_at}
use Rattle.endpoint_router.specs.Table.{Table, router_of}
use Rattle.endpoint_router.proofs.Tables.{row_is}
use Rattle.endpoint_router.proofs.table.EndpointTableEndpoints.next_request.Goals as goal

pub returns : goal.returns
returns c =
    c.next_request.ensures
    ∙ (ap next_number (sym (row_is c.self.inside.index c.self.inside.rows.slots c.self.inside.drawn c.args.end c.args.id))
    ∙ ap (λ (t : Table). next_number (row_at (router_of t c.args.end) c.args.id)) c.self.view_is)
