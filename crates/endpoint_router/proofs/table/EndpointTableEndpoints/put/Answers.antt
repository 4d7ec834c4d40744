use Rattle.std.proofs.Common.{ap, subst, sym, ◌∙◌}
use Rattle.handle_table.specs.Things.{same_end}
use Rattle.endpoint_router.specs.Rows.{has_place, row_seen}
use Rattle.endpoint_router.specs.Table.{Table, router_of}
use Rattle.endpoint_router.specs.Turns.{EntersIf, PlacesStay}
use Rattle.endpoint_router.specs.Slots.{table_in}
use Rattle.endpoint_router.proofs.Tables.{place_is, places_as, put_there}
use Rattle.endpoint_router.proofs.table.EndpointTableEndpoints.put.Goals as goal

pub put-requires-clause-named : goal.put-requires-clause-named
put-requires-clause-named c = c.self.invariant.named

pub put-requires-clause-place : goal.put-requires-clause-place
put-requires-clause-place c =
    sym (place_is c.self.inside.index c.self.inside.rows.slots c.self.inside.drawn c.args.end c.args.id)
    ∙ (ap (λ (t : Table). has_place (router_of t c.args.end) c.args.id) c.self.view_is ∙ c.requires.place)

pub invariant_of-self : goal.invariant_of-self
invariant_of-self c = record { named = c.put.ensures.named; counted = c.self.invariant.counted }

pub returns-clause-enters : goal.returns-clause-enters
returns-clause-enters c = λ x.
    subst (λ (t : Table). EntersIf c.args.endpoint c.args.id (same_end c.args.end x) (router_of t x)
    (router_of (table_in c.self.inside.index c.put.new.rows.slots c.self.inside.drawn) x)) c.self.view_is
    (put_there c.self.inside.index c.self.inside.rows.slots c.put.new.rows.slots c.self.inside.drawn c.args.end c.args.id
    (row_seen c.new-row.result) c.args.endpoint c.new-row.ensures c.put.ensures x)

pub returns-clause-stay : goal.returns-clause-stay
returns-clause-stay c =
    subst (λ (t : Table). PlacesStay (router_of t c.args.end)
    (router_of (table_in c.self.inside.index c.put.new.rows.slots c.self.inside.drawn) c.args.end)) c.self.view_is
    (places_as c.self.inside.index c.self.inside.rows.slots c.put.new.rows.slots c.self.inside.drawn c.args.end c.args.id c.args.end)
