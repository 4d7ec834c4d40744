use Rattle.std.proofs.Common.{subst, sym}
use Rattle.handle_table.specs.Things.{same_end}
use Rattle.endpoint_router.specs.Table.{Table, router_of}
use Rattle.endpoint_router.specs.Turns.{CanTurn, TurnsIf, turn_of}
use Rattle.endpoint_router.specs.Slots.{table_in}
use Rattle.endpoint_router.proofs.Tables.{may_turn, turned}
use Rattle.endpoint_router.proofs.table.EndpointTableEndpoints.turn.Goals as goal

pub turn-requires-clause-named : goal.turn-requires-clause-named
turn-requires-clause-named c = c.self.invariant.named

pub turn-requires-clause-may : goal.turn-requires-clause-may
turn-requires-clause-may c =
    may_turn c.self.inside.index c.self.inside.rows.slots c.self.inside.drawn c.args.end c.args.id c.args.turn
    (subst (λ (t : Table). CanTurn (router_of t c.args.end) c.args.id c.args.turn) (sym c.self.view_is) c.requires)

pub invariant_of-self : goal.invariant_of-self
invariant_of-self c = record { named = c.turn.ensures.named; counted = c.self.invariant.counted }

pub returns : goal.returns
returns c = λ x.
    subst (λ (t : Table). TurnsIf (turn_of c.args.turn) c.args.id (same_end c.args.end x) (router_of t x)
    (router_of (table_in c.self.inside.index c.turn.new.rows.slots c.self.inside.drawn) x)) c.self.view_is
    (turned c.self.inside.index c.self.inside.rows.slots c.turn.new.rows.slots c.self.inside.drawn c.args.end c.args.id
    (turn_of c.args.turn) c.turn.ensures x)
