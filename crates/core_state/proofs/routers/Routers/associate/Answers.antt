use Rattle.std.proofs.Common.{subst, sym}
use Rattle.handle_table.specs.Things.{same_end}
use Rattle.endpoint_router.specs.Turns.{AssociatesIf, CanAssociate}
use Rattle.core_state.specs.Routers.{Routers, router_at}
use Rattle.core_state.proofs.routers.Routers.associate.Goals as goal

pub associate-requires : goal.associate-requires
associate-requires c = subst (λ (r : Routers). CanAssociate (router_at r c.args.end)) (sym c.self.view_is) c.requires

pub returns : goal.returns
returns c = λ x.
    subst (λ (r : Routers). AssociatesIf c.args.endpoint (same_end c.args.end x) (router_at r x) (router_at c.associate.new.self x)) c.self.view_is
    (c.associate.ensures x)
