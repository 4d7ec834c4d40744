use Rattle.std.proofs.Common.{◌<◌, subst, sym}
use Rattle.mj_base.specs.declared.limits.TheConstants.{MAX_EVENTS}
use Rattle.handle_table.specs.Things.{same_end}
use Rattle.endpoint_router.specs.Rows.{row_seen}
use Rattle.endpoint_router.specs.Table.{Table, router_of}
use Rattle.endpoint_router.specs.Turns.{AssociatesIf, CanAssociate}
use Rattle.endpoint_router.specs.Slots.{table_in}
use Rattle.endpoint_router.proofs.Tables.{associated, place_there}
use Rattle.endpoint_router.proofs.table.EndpointTableEndpoints.associate.Goals as goal

pub associate-requires-clause-sound : goal.associate-requires-clause-sound
associate-requires-clause-sound c = c.self.invariant

pub associate-requires-clause-few : goal.associate-requires-clause-few
associate-requires-clause-few c =
    subst (λ (t : Table). (router_of t c.args.end).drawn < MAX_EVENTS) (sym c.self.view_is) c.requires.few

pub associate-requires-clause-place : goal.associate-requires-clause-place
associate-requires-clause-place c =
    place_there c.self.inside.index c.self.inside.rows.slots c.self.inside.drawn c.args.end
    (subst (λ (t : Table). CanAssociate (router_of t c.args.end)) (sym c.self.view_is) c.requires)

pub invariant_of-self : goal.invariant_of-self
invariant_of-self c = record { named = c.associate.ensures.rows.named; counted = c.associate.ensures.counted }

pub returns : goal.returns
returns c = λ x.
    subst (λ (t : Table). AssociatesIf c.args.endpoint (same_end c.args.end x) (router_of t x)
    (router_of (table_in c.self.inside.index c.associate.new.rows.slots c.associate.new.drawn) x)) c.self.view_is
    (associated c.self.inside.index c.self.inside.rows.slots c.associate.new.rows.slots c.self.inside.drawn c.associate.new.drawn c.args.end
    (row_seen c.new-row.result) c.args.endpoint c.new-row.ensures c.associate.ensures.rows c.associate.ensures.counts x)
