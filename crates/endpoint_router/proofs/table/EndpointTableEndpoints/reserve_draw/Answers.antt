use Rattle.std.proofs.Common.{Bool, subst, sym}
use Rattle.std.specs.Prelude.{IsSome, IsTrue, Option}
use Rattle.endpoint_router.specs.Rows.{RowSeen, row_at}
use Rattle.endpoint_router.specs.Table.{Table, router_of}
use Rattle.endpoint_router.specs.Turns.{IsSame}
use Rattle.endpoint_router.specs.Slots.{table_in}
use Rattle.endpoint_router.proofs.SlotLemmas.{on_ok}
use Rattle.endpoint_router.proofs.Tables.{room_is, row_is, seen_same}
use Rattle.endpoint_router.proofs.table.EndpointTableEndpoints.reserve_draw.Goals as goal

pub reserve_draw-requires-clause-named : goal.reserve_draw-requires-clause-named
reserve_draw-requires-clause-named c = c.self.invariant.named

pub reserve_draw-requires-clause-there : goal.reserve_draw-requires-clause-there
reserve_draw-requires-clause-there c =
    subst (λ (o : Option RowSeen). IsSome o) (row_is c.self.inside.index c.self.inside.rows.slots c.self.inside.drawn c.args.end c.args.id)
    (subst (λ (t : Table). IsSome (row_at (router_of t c.args.end) c.args.id)) (sym c.self.view_is) c.requires)

pub invariant_of-self : goal.invariant_of-self
invariant_of-self c = record { named = c.reserve_draw.ensures.named; counted = c.self.invariant.counted }

pub returns-clause-same : goal.returns-clause-same
returns-clause-same c = λ x.
    subst (λ (t : Table). IsSame (router_of t x) (router_of (table_in c.self.inside.index c.reserve_draw.new.rows.slots c.self.inside.drawn) x)) c.self.view_is
    (seen_same c.self.inside.index c.self.inside.rows.slots c.reserve_draw.new.rows.slots c.self.inside.drawn c.args.end c.args.id
    c.reserve_draw.ensures.rows x)

pub returns-clause-room : goal.returns-clause-room
returns-clause-room c =
    on_ok c.reserve_draw.result
    (λ room. subst (λ (b : Bool). IsTrue b) (sym (room_is c.self.inside.index c.reserve_draw.new.rows.slots c.self.inside.drawn c.args.end c.args.id)) room)
    c.reserve_draw.ensures.room
