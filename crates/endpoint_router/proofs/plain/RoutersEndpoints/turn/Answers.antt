use Rattle.std.proofs.Common.{Bool, refl, subst}
use Rattle.endpoint_router.specs.Rows.{Contents}
use Rattle.endpoint_router.specs.Turns.{CanTurn, TurnsIf, turn_of}
use Rattle.endpoint_router.proofs.Routing.{in_all, in_none, router_found, turns_none, turns_nothing}
use Rattle.endpoint_router.proofs.plain.RoutersEndpoints.turn.Goals.{in-Some, in_default}
use Rattle.endpoint_router.proofs.plain.RoutersEndpoints.turn.Goals as goal

pub turn_one-requires : goal.turn_one-requires
turn_one-requires c =
    subst (λ (r : Contents). CanTurn r c.args.id c.args.turn)
    (router_found c.self.inside.routers c.args.self.now c.args.end _ c.self.view_is c.in-Some.ensures.value) c.requires

pub returns : goal.returns
returns c = elim c.match-get_mut.branch [
  | in-Some w ↦ (λ x.
      rw (w.self-inside-is, ← c.self.view_is)
      (in_all c.self.inside.routers (c.get_mut.follows.lender w.turn_one.new.router) c.args.end w.turn_one.new.router
      ((c.get_mut.follows.holds w.turn_one.new.router).3 (rw (← w.in-Some.ensures.value) refl))
      (λ (here : Bool) (old new : Contents). TurnsIf (turn_of c.args.turn) c.args.id here old new) (turns_none (turn_of c.args.turn) c.args.id)
      w.in-Some.router.now w.in-Some.ensures.value w.turn_one.ensures x))
  | in_default w ↦ (λ x.
      rw (w.self-inside-is, c.get_mut.follows.holds-at-none, ← c.self.view_is)
      (in_none (λ (here : Bool) (old new : Contents). TurnsIf (turn_of c.args.turn) c.args.id here old new)
      (turns_none (turn_of c.args.turn) c.args.id) (turns_nothing (turn_of c.args.turn) c.args.id) c.self.inside.routers c.args.end
      w.in_default.ensures.value x))
]
