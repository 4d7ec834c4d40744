use Rattle.std.proofs.Common.{◌≡◌, subst}
use Rattle.handle_table.specs.Things.{same_end}
use Rattle.endpoint_router.specs.Rows.{row_seen}
use Rattle.endpoint_router.specs.Table.{Table, router_of}
use Rattle.endpoint_router.specs.Turns.{EntersIf}
use Rattle.endpoint_router.specs.Slots.{table_in}
use Rattle.endpoint_router.proofs.SlotLemmas.{on_err, on_ok}
use Rattle.endpoint_router.proofs.Tables.{all_same, entered}
use Rattle.endpoint_router.proofs.table.EndpointTableEndpoints.enter.Goals as goal

pub enter-requires : goal.enter-requires
enter-requires c = c.self.invariant

pub invariant_of-self : goal.invariant_of-self
invariant_of-self c = c.enter.ensures.sound

pub returns-clause-ok : goal.returns-clause-ok
returns-clause-ok c =
    on_ok c.enter.result
    (λ e x. subst (λ (t : Table). EntersIf c.args.endpoint c.args.id (same_end c.args.end x) (router_of t x)
    (router_of (table_in c.enter.new.index c.enter.new.rows.slots c.enter.new.drawn) x)) c.self.view_is
    (entered c.self.inside.index c.enter.new.index c.self.inside.rows.slots c.enter.new.rows.slots c.self.inside.drawn c.enter.new.drawn
    c.args.end c.args.id (row_seen c.new-row.result) c.args.endpoint c.new-row.ensures e c.enter.ensures.counts x))
    c.enter.ensures.ok

pub returns-clause-err : goal.returns-clause-err
returns-clause-err c =
    on_err c.enter.result
    (λ e x. subst (λ (t : Table). router_of (table_in c.enter.new.index c.enter.new.rows.slots c.enter.new.drawn) x ≡ router_of t x)
    c.self.view_is
    (all_same c.self.inside.index c.enter.new.index c.self.inside.rows.slots c.enter.new.rows.slots c.self.inside.drawn c.enter.new.drawn
    e c.enter.ensures.counts x))
    c.enter.ensures.err
