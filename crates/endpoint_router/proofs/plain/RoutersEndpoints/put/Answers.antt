use Rattle.std.proofs.Common.{◌≡◌, Bool, None, ap, refl, subst, ◌∙◌}
use Rattle.std.specs.Prelude.{◌==◌, IsTrue, Some, if◌then◌else◌}
use Rattle.endpoint_router.specs.Rows.{Contents, RowSeen, has_place, no_endpoints, row_at}
use Rattle.endpoint_router.specs.Turns.{EntersIf, PlacesStay}
use Rattle.endpoint_router.proofs.Routing.{enters_none, in_all, router_found, stay_none}
use Rattle.endpoint_router.proofs.plain.RoutersEndpoints.put.Goals.{in-Some, in_default}
use Rattle.endpoint_router.proofs.plain.RoutersEndpoints.put.Goals as goal

pub enter-requires-clause-absent : goal.enter-requires-clause-absent
enter-requires-clause-absent c =
    subst (λ (r : Contents). row_at r c.args.id ≡ None)
    (router_found c.self.inside.routers c.args.self.now c.args.end _ c.self.view_is c.in-Some.ensures.value) c.requires.absent

pub enter-requires-clause-place : goal.enter-requires-clause-place
enter-requires-clause-place c =
    subst (λ (r : Contents). IsTrue (has_place r c.args.id))
    (router_found c.self.inside.routers c.args.self.now c.args.end _ c.self.view_is c.in-Some.ensures.value) c.requires.place

pub returns-clause-enters : goal.returns-clause-enters
returns-clause-enters c = elim c.match-get_mut.branch [
  | in-Some w ↦ (λ x.
      rw (w.self-inside-is, ← c.self.view_is)
      (in_all c.self.inside.routers (c.get_mut.follows.lender w.enter.new.self) c.args.end w.enter.new.self
      ((c.get_mut.follows.holds w.enter.new.self).3 (rw (← w.in-Some.ensures.value) refl))
      (λ (here : Bool) (old new : Contents). EntersIf c.args.endpoint c.args.id here old new) (enters_none c.args.endpoint c.args.id)
      w.in-Some.router.now w.in-Some.ensures.value
      (record {
        rows = λ n.
            w.enter.ensures.rows n
            ∙ ap (λ (row : RowSeen). if c.args.id == n then Some row else row_at w.in-Some.router.now n) w.new.ensures;
        drawn = w.enter.ensures.rest.drawn;
      }) x))
  | in_default w ↦
      let none : IsTrue (has_place no_endpoints c.args.id) =
      subst (λ (r : Contents). IsTrue (has_place r c.args.id))
      (router_found c.self.inside.routers c.args.self.now c.args.end _ c.self.view_is w.in_default.ensures.value) c.requires.place in
      absurd cc
]

pub returns-clause-stay : goal.returns-clause-stay
returns-clause-stay c = elim c.match-get_mut.branch [
  | in-Some w ↦
      rw (w.self-inside-is, ← c.self.view_is)
      (in_all c.self.inside.routers (c.get_mut.follows.lender w.enter.new.self) c.args.end w.enter.new.self
      ((c.get_mut.follows.holds w.enter.new.self).3 (rw (← w.in-Some.ensures.value) refl))
      (λ (here : Bool) (old new : Contents). PlacesStay old new) stay_none w.in-Some.router.now w.in-Some.ensures.value
      (λ n h. w.enter.ensures.rest.places n ∙ h) c.args.end)
  | in_default w ↦ rw (w.self-inside-is, c.get_mut.follows.holds-at-none, ← c.self.view_is) (λ n h. h)
]
