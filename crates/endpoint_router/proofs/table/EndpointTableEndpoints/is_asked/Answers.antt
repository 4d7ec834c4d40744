use Rattle.std.proofs.Common.{ap, sym, ◌∙◌}
use Rattle.std.specs.Prelude.{Option}
use Rattle.endpoint_router.specs.Rows.{RowSeen, is_pending, row_at}
use Rattle.endpoint_router.specs.Table.{Table, router_of}
use Rattle.endpoint_router.proofs.Tables.{row_is}
use Rattle.endpoint_router.proofs.table.EndpointTableEndpoints.is_asked.Goals as goal

pub returns : goal.returns
returns c =
    c.is_asked.ensures
    ∙ (ap (λ (o : Option RowSeen). is_pending o c.args.request c.args.method)
    (sym (row_is c.self.inside.index c.self.inside.rows.slots c.self.inside.drawn c.args.end c.args.id))
    ∙ ap (λ (t : Table). is_pending (row_at (router_of t c.args.end) c.args.id) c.args.request c.args.method) c.self.view_is)
