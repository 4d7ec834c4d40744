use Rattle.std.proofs.Common.{◌≡◌, None, ap, subst, sym, ◌∙◌}
use Rattle.handle_table.specs.Things.{same_end}
use Rattle.endpoint_router.specs.Rows.{row_at}
use Rattle.endpoint_router.specs.Turns.{EntersIf}
use Rattle.core_state.specs.Routers.{Routers, router_at}
use Rattle.core_state.proofs.Routing.{on_err, on_ok}
use Rattle.core_state.proofs.routers.Routers.enter.Goals as goal

pub enter-requires : goal.enter-requires
enter-requires c = subst (λ (r : Routers). row_at (router_at r c.args.end) c.args.id ≡ None) (sym c.self.view_is) c.requires

pub returns-clause-ok : goal.returns-clause-ok
returns-clause-ok c =
    on_ok c.enter.result
    (λ e x. subst (λ (r : Routers). EntersIf c.args.endpoint c.args.id (same_end c.args.end x) (router_at r x) (router_at c.enter.new.self x))
    c.self.view_is (e x))
    c.enter.ensures.ok

pub returns-clause-err : goal.returns-clause-err
returns-clause-err c = on_err c.enter.result (λ e x. e x ∙ ap (λ (r : Routers). router_at r x) c.self.view_is) c.enter.ensures.err
