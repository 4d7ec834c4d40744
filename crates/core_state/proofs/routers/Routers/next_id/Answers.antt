use Rattle.std.proofs.Common.{◌<◌, ap, subst, sym, ◌∙◌}
use Rattle.mj_base.specs.declared.limits.TheConstants.{MAX_EVENTS}
use Rattle.endpoint_router.specs.Rows.{own_id}
use Rattle.core_state.specs.Routers.{Routers, router_at}
use Rattle.core_state.proofs.routers.Routers.next_id.Goals as goal

pub next_id-requires : goal.next_id-requires
next_id-requires c = subst (λ (r : Routers). (router_at r c.args.end).drawn < MAX_EVENTS) (sym c.self.view_is) c.requires

pub returns : goal.returns
returns c = c.next_id.ensures ∙ ap (λ (r : Routers). own_id (router_at r c.args.end)) c.self.view_is
