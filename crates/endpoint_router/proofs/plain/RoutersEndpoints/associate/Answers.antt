use Rattle.std.proofs.Common.{Bool, refl, subst}
use Rattle.std.specs.Prelude.{IsTrue}
use Rattle.endpoint_router.specs.Rows.{Contents, has_place, no_endpoints, own_id}
use Rattle.endpoint_router.specs.Turns.{AssociatesIf, CanAssociate}
use Rattle.endpoint_router.proofs.Routing.{associates_none, in_all, router_found}
use Rattle.endpoint_router.proofs.plain.RoutersEndpoints.associate.Goals.{in-Some, in_default}
use Rattle.endpoint_router.proofs.plain.RoutersEndpoints.associate.Goals as goal

pub associate_one-requires : goal.associate_one-requires
associate_one-requires c =
    subst (λ (r : Contents). CanAssociate r)
    (router_found c.self.inside.routers c.args.self.now c.args.end _ c.self.view_is c.in-Some.ensures.value) c.requires

pub returns : goal.returns
returns c = elim c.match-get_mut.branch [
  | in-Some w ↦ (λ x.
      rw (w.self-inside-is, ← c.self.view_is)
      (in_all c.self.inside.routers (c.get_mut.follows.lender w.associate_one.new.router) c.args.end w.associate_one.new.router
      ((c.get_mut.follows.holds w.associate_one.new.router).3 (rw (← w.in-Some.ensures.value) refl))
      (λ (here : Bool) (old new : Contents). AssociatesIf c.args.endpoint here old new) (associates_none c.args.endpoint)
      w.in-Some.router.now w.in-Some.ensures.value
      w.associate_one.ensures x))
  | in_default w ↦
      let none : CanAssociate no_endpoints =
      subst (λ (r : Contents). CanAssociate r)
      (router_found c.self.inside.routers c.args.self.now c.args.end _ c.self.view_is w.in_default.ensures.value) c.requires in
      let place : IsTrue (has_place no_endpoints (own_id no_endpoints)) = none.place in
      absurd cc
]
