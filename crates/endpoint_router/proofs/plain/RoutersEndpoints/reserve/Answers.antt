use Rattle.std.proofs.Common.{Bool, refl, subst, sym, ◌∙◌}
use Rattle.std.specs.Prelude.{◌==◌, IsSome, IsTrue}
use Rattle.std.proofs.lemmas.Bool.{eq-eqb}
use Rattle.handle_table.proofs.ThingsLemmas.{or_left, or_right}
use Rattle.endpoint_router.specs.Rows.{Contents, has_place, no_endpoints, row_at}
use Rattle.endpoint_router.specs.Turns.{IsSame, PlacesStay}
use Rattle.endpoint_router.proofs.Routing.{in_all, now_there, router_found, same_none, stay_none}
use Rattle.endpoint_router.proofs.SlotLemmas.{both_ways, on_ok}
use Rattle.endpoint_router.proofs.plain.RoutersEndpoints.reserve.Goals.{in-Some, in-None}
use Rattle.endpoint_router.proofs.plain.RoutersEndpoints.reserve.Goals as goal

pub returns-clause-same : goal.returns-clause-same
returns-clause-same c = elim c.match-get_mut.branch [
  | in-Some w ↦ (λ x.
      rw (w.self-inside-is, ← c.self.view_is)
      (in_all c.self.inside.routers (c.get_mut.follows.lender w.reserve.new.self) c.args.end w.reserve.new.self
      ((c.get_mut.follows.holds w.reserve.new.self).3 (rw (← w.in-Some.ensures.value) refl))
      (λ (here : Bool) (old new : Contents). IsSame old new) same_none w.in-Some.router.now w.in-Some.ensures.value
      (record { rows = w.reserve.ensures.rows; drawn = w.reserve.ensures.drawn }) x))
  | in-None w ↦ (λ x. rw (w.self-inside-is, c.get_mut.follows.holds-at-none, ← c.self.view_is) (same_none _))
]

pub returns-clause-stay : goal.returns-clause-stay
returns-clause-stay c = elim c.match-get_mut.branch [
  | in-Some w ↦
      rw (w.self-inside-is, ← c.self.view_is)
      (in_all c.self.inside.routers (c.get_mut.follows.lender w.reserve.new.self) c.args.end w.reserve.new.self
      ((c.get_mut.follows.holds w.reserve.new.self).3 (rw (← w.in-Some.ensures.value) refl))
      (λ (here : Bool) (old new : Contents). PlacesStay old new) stay_none w.in-Some.router.now w.in-Some.ensures.value
      (both_ways w.reserve.result w.reserve.ensures.ok w.reserve.ensures.err
      (λ e. λ n h. e n ∙ or_right (c.args.id == n) (has_place w.in-Some.router.now n) h)
      (λ e. λ n h. subst (λ (r : Contents). IsTrue (has_place r n)) (sym e) h)) c.args.end)
  | in-None w ↦ rw (w.self-inside-is, c.get_mut.follows.holds-at-none, ← c.self.view_is) (λ n h. h)
]

pub returns-clause-there : goal.returns-clause-there
returns-clause-there c = elim c.match-get_mut.branch [
  | in-Some w ↦
      rw (w.result-is, w.self-inside-is)
      (on_ok w.reserve.result
      (λ e. subst (λ (r : Contents). IsTrue (has_place r c.args.id))
      (sym (now_there c.self.inside.routers (c.get_mut.follows.lender w.reserve.new.self) c.args.end w.reserve.new.self
      ((c.get_mut.follows.holds w.reserve.new.self).3 (rw (← w.in-Some.ensures.value) refl))))
      (e c.args.id ∙ or_left (c.args.id == c.args.id) (has_place w.in-Some.router.now c.args.id) (eq-eqb c.args.id c.args.id refl)))
      w.reserve.ensures.ok)
  | in-None w ↦
      let none : IsSome (row_at no_endpoints 0) =
      subst (λ (r : Contents). IsSome (row_at r 0))
      (router_found c.self.inside.routers c.args.self.now c.args.end _ c.self.view_is w.in-None.ensures.value) c.requires in
      absurd cc
]
