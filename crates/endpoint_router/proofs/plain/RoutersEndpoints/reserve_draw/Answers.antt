use Rattle.std.proofs.Common.{Bool, refl, subst, sym}
use Rattle.std.specs.Prelude.{IsSome, IsTrue}
use Rattle.endpoint_router.specs.Rows.{Contents, can_draw, no_endpoints, row_at}
use Rattle.endpoint_router.specs.Turns.{IsSame}
use Rattle.endpoint_router.proofs.Routing.{in_all, now_there, router_found, same_none}
use Rattle.endpoint_router.proofs.SlotLemmas.{on_ok}
use Rattle.endpoint_router.proofs.plain.RoutersEndpoints.reserve_draw.Goals.{in-Some, in-None}
use Rattle.endpoint_router.proofs.plain.RoutersEndpoints.reserve_draw.Goals as goal

pub reserve_draw-requires : goal.reserve_draw-requires
reserve_draw-requires c =
    subst (λ (r : Contents). IsSome (row_at r c.args.id))
    (router_found c.self.inside.routers c.args.self.now c.args.end _ c.self.view_is c.in-Some.ensures.value) c.requires

pub returns-clause-same : goal.returns-clause-same
returns-clause-same c = elim c.match-get_mut.branch [
  | in-Some w ↦ (λ x.
      rw (w.self-inside-is, ← c.self.view_is)
      (in_all c.self.inside.routers (c.get_mut.follows.lender w.reserve_draw.new.self) c.args.end w.reserve_draw.new.self
      ((c.get_mut.follows.holds w.reserve_draw.new.self).3 (rw (← w.in-Some.ensures.value) refl))
      (λ (here : Bool) (old new : Contents). IsSame old new) same_none w.in-Some.router.now w.in-Some.ensures.value
      (record { rows = w.reserve_draw.ensures.rows; drawn = w.reserve_draw.ensures.rest.drawn }) x))
  | in-None w ↦ (λ x. rw (w.self-inside-is, c.get_mut.follows.holds-at-none, ← c.self.view_is) (same_none _))
]

pub returns-clause-room : goal.returns-clause-room
returns-clause-room c = elim c.match-get_mut.branch [
  | in-Some w ↦
      rw (w.result-is, w.self-inside-is)
      (on_ok w.reserve_draw.result
      (λ e. subst (λ (r : Contents). IsTrue (can_draw r c.args.id))
      (sym (now_there c.self.inside.routers (c.get_mut.follows.lender w.reserve_draw.new.self) c.args.end w.reserve_draw.new.self
      ((c.get_mut.follows.holds w.reserve_draw.new.self).3 (rw (← w.in-Some.ensures.value) refl)))) e)
      w.reserve_draw.ensures.ok)
  | in-None w ↦
      let none : IsSome (row_at no_endpoints c.args.id) =
      subst (λ (r : Contents). IsSome (row_at r c.args.id))
      (router_found c.self.inside.routers c.args.self.now c.args.end _ c.self.view_is w.in-None.ensures.value) c.requires in
      absurd cc
]
