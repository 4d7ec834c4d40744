use Rattle.std.proofs.Common.{ℕ, List, refl, subst, sym, take}
use Rattle.std.specs.Prelude.{IsSome, IsTrue, Option}
use Rattle.bind_model.specs.Machine.{Entry}
use Rattle.endpoint_router.specs.Rows.{RowSeen, has_place}
use Rattle.core_state.specs.Entries.{ArePlaced}
use Rattle.core_state.specs.Routers.{router_at}
use Rattle.core_state.proofs.Entered.{longer_here}
use Rattle.core_state.proofs.Routing.{none_placed, placed_next, same_twice}
use Rattle.core_state.proofs.entries.place_all.Goals as goal

pub loop-entry-init : goal.loop-entry-init
loop-entry-init c = (λ x. record { rows = λ n. refl; drawn = refl }, none_placed (router_at c.args.table.now c.args.end))

pub reserve-requires : goal.reserve-requires
reserve-requires c = subst (λ (o : Option RowSeen). IsSome o) (sym ((c.loop-entry.invariant.0 c.args.end).rows 0)) c.requires

pub returns-in_err-reserve-clause-same : goal.returns-in_err-reserve-clause-same
returns-in_err-reserve-clause-same c = λ x.
    same_twice (router_at c.args.table.now x) (router_at c.loop-entry.table x) (router_at c.reserve.new.self x) (c.loop-entry.invariant.0 x)
    (c.reserve.ensures.same x)

pub loop-entry-preserved : goal.loop-entry-preserved
loop-entry-preserved c = (
  λ x. same_twice (router_at c.args.table.now x) (router_at c.loop-entry.table x) (router_at c.reserve.new.self x) (c.loop-entry.invariant.0 x)
      (c.in_ok-reserve.ensures.same x),
  subst (λ (es : List Entry). ArePlaced (router_at c.reserve.new.self c.args.end) es)
      (sym (longer_here c.args.entries.now c.loop-entry.entry-index c.entry-item.result c.loop-entry-test.true c.entry-item.is))
      (placed_next (router_at c.loop-entry.table c.args.end) (router_at c.reserve.new.self c.args.end)
      (take c.loop-entry.entry-index c.args.entries.now) c.entry-item.result c.loop-entry.invariant.1 c.in_ok-reserve.ensures.stay
      (subst (λ (id : ℕ). IsTrue (has_place (router_at c.reserve.new.self c.args.end) id)) c.id.ensures c.in_ok-reserve.ensures.there)),
)
