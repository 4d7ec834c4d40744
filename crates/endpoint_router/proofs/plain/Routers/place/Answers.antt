use Rattle.std.proofs.Common.{◌≡◌, List, ap, false, sym, ◌∙◌}
use Rattle.mj_base.specs.declared.ids.EndId.{EndId}
use Rattle.endpoint_router.specs.Plain.{has_router, router_in}
use Rattle.endpoint_router.specs.Rows.{Contents}
use Rattle.endpoint_router.proofs.Routing.{fresh_same, router_stands}
use Rattle.endpoint_router.proofs.plain.Routers.place.Goals as goal

pub returns-clause-same : goal.returns-clause-same
returns-clause-same c x =
    let absent : has_router c.self.inside.routers.entries c.args.end ≡ false =
    ap (λ (routers : List (EndId × Contents)). has_router routers c.args.end) c.self.view_is ∙ (sym c.has_router.ensures ∙ c.if-has_router.false) in
    fresh_same c.self.inside.routers c.insert.new.self c.args.end c.new.result c.in_ok-insert.ensures.updates c.new.ensures absent x
    ∙ ap (λ (routers : List (EndId × Contents)). router_in routers x) c.self.view_is

pub returns-clause-there : goal.returns-clause-there
returns-clause-there c = router_stands c.self.inside.routers c.insert.new.self c.args.end c.new.result c.in_ok-insert.ensures.updates
