use Rattle.std.proofs.Common.{◌<◌, ap, subst, sym, ◌∙◌}
use Rattle.mj_base.specs.declared.limits.TheConstants.{MAX_EVENTS}
use Rattle.endpoint_router.specs.Rows.{own_id}
use Rattle.endpoint_router.specs.Table.{Table, router_of}
use Rattle.endpoint_router.proofs.Tables.{own_is}
use Rattle.endpoint_router.proofs.table.EndpointTableEndpoints.next_id.Goals as goal

pub next_id-requires : goal.next_id-requires
next_id-requires c = subst (λ (t : Table). (router_of t c.args.end).drawn < MAX_EVENTS) (sym c.self.view_is) c.requires

pub returns : goal.returns
returns c =
    c.next_id.ensures
    ∙ (sym (own_is c.self.inside.index c.self.inside.rows.slots c.self.inside.drawn c.args.end)
    ∙ ap (λ (t : Table). own_id (router_of t c.args.end)) c.self.view_is)
