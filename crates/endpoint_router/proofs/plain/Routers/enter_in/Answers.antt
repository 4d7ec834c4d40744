use Rattle.std.proofs.Common.{◌≡◌, Bool, None, refl, subst}
use Rattle.endpoint_router.specs.Rows.{Contents, row_at}
use Rattle.endpoint_router.specs.Turns.{EntersIf}
use Rattle.endpoint_router.proofs.Routing.{enters_none, in_all, no_router, router_found}
use Rattle.endpoint_router.proofs.SlotLemmas.{on_err, on_ok}
use Rattle.endpoint_router.proofs.plain.Routers.enter_in.Goals.{in-Some, in-None}
use Rattle.endpoint_router.proofs.plain.Routers.enter_in.Goals as goal

pub enter_one-requires : goal.enter_one-requires
enter_one-requires c =
    subst (λ (r : Contents). row_at r c.args.id ≡ None)
    (router_found c.self.inside.routers c.args.self.now c.args.end _ c.self.view_is c.in-Some.ensures.value) c.requires.absent

pub returns-clause-ok : goal.returns-clause-ok
returns-clause-ok c = elim c.match-get_mut.branch [
  | in-Some w ↦
      rw (w.result-is, w.self-inside-is, ← c.self.view_is)
      (on_ok w.enter_one.result
      (λ e. λ x.
      in_all c.self.inside.routers (c.get_mut.follows.lender w.enter_one.new.router) c.args.end w.enter_one.new.router
      ((c.get_mut.follows.holds w.enter_one.new.router).3 (rw (← w.in-Some.ensures.value) refl))
      (λ (here : Bool) (old new : Contents). EntersIf c.args.endpoint c.args.id here old new) (enters_none c.args.endpoint c.args.id)
      w.in-Some.router.now w.in-Some.ensures.value e x)
      w.enter_one.ensures.ok)
  | in-None w ↦ absurd (no_router c.self.inside.routers c.args.self.now c.args.end c.self.view_is w.in-None.ensures.value c.requires.there)
]

pub returns-clause-err : goal.returns-clause-err
returns-clause-err c = elim c.match-get_mut.branch [
  | in-Some w ↦
      rw (w.result-is, w.self-inside-is, ← c.self.view_is)
      (on_err w.enter_one.result
      (λ e. λ x.
      in_all c.self.inside.routers (c.get_mut.follows.lender w.enter_one.new.router) c.args.end w.enter_one.new.router
      ((c.get_mut.follows.holds w.enter_one.new.router).3 (rw (← w.in-Some.ensures.value) refl))
      (λ (here : Bool) (old new : Contents). new ≡ old) (λ r. refl)
      w.in-Some.router.now w.in-Some.ensures.value e x)
      w.enter_one.ensures.err)
  | in-None w ↦ absurd (no_router c.self.inside.routers c.args.self.now c.args.end c.self.view_is w.in-None.ensures.value c.requires.there)
]
