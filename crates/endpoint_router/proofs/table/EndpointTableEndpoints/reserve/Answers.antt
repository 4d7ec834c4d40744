use Rattle.std.proofs.Common.{subst, ◌∙◌}
use Rattle.endpoint_router.specs.Table.{Table, router_of}
use Rattle.endpoint_router.specs.Turns.{IsSame, PlacesStay}
use Rattle.endpoint_router.specs.Slots.{table_in}
use Rattle.endpoint_router.proofs.SlotLemmas.{on_ok}
use Rattle.endpoint_router.proofs.Tables.{kept, place_is, places_kept}
use Rattle.endpoint_router.proofs.table.EndpointTableEndpoints.reserve.Goals as goal

pub reserve-requires : goal.reserve-requires
reserve-requires c = c.self.invariant

pub invariant_of-self : goal.invariant_of-self
invariant_of-self c = c.reserve.ensures.sound

pub returns-clause-same : goal.returns-clause-same
returns-clause-same c = λ x.
    subst (λ (t : Table). IsSame (router_of t x) (router_of (table_in c.reserve.new.index c.reserve.new.rows.slots c.reserve.new.drawn) x)) c.self.view_is
    (kept c.self.inside.index c.reserve.new.index c.self.inside.rows.slots c.reserve.new.rows.slots c.self.inside.drawn c.reserve.new.drawn
    c.reserve.ensures.same x)

pub returns-clause-stay : goal.returns-clause-stay
returns-clause-stay c =
    subst (λ (t : Table). PlacesStay (router_of t c.args.end)
    (router_of (table_in c.reserve.new.index c.reserve.new.rows.slots c.reserve.new.drawn) c.args.end)) c.self.view_is
    (places_kept c.self.inside.index c.reserve.new.index c.self.inside.rows.slots c.reserve.new.rows.slots c.self.inside.drawn c.reserve.new.drawn
    c.reserve.ensures.same c.args.end)

pub returns-clause-there : goal.returns-clause-there
returns-clause-there c =
    on_ok c.reserve.result
    (λ there. place_is c.reserve.new.index c.reserve.new.rows.slots c.reserve.new.drawn c.args.end c.args.id ∙ there)
    c.reserve.ensures.there
