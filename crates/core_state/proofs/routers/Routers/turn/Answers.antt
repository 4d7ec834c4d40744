use Rattle.std.proofs.Common.{subst, sym}
use Rattle.handle_table.specs.Things.{same_end}
use Rattle.endpoint_router.specs.Turns.{CanTurn, TurnsIf, turn_of}
use Rattle.core_state.specs.Routers.{Routers, router_at}
use Rattle.core_state.proofs.routers.Routers.turn.Goals as goal

pub turn-requires : goal.turn-requires
turn-requires c = subst (λ (r : Routers). CanTurn (router_at r c.args.end) c.args.id c.args.turn) (sym c.self.view_is) c.requires

pub returns : goal.returns
returns c = λ x.
    subst (λ (r : Routers). TurnsIf (turn_of c.args.turn) c.args.id (same_end c.args.end x) (router_at r x) (router_at c.turn.new.self x)) c.self.view_is
    (c.turn.ensures x)
