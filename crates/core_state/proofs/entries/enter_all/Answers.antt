use Rattle.std.proofs.Common.{ℕ, List, take, ap, sym, ◌∙◌, subst}
use Rattle.std.specs.Prelude.{IsTrue}
use Rattle.std.proofs.lemmas.List.{take_all}
use Rattle.bind_model.specs.Machine.{Entry}
use Rattle.bind_model.specs.declared.endpoint.Endpoint.{Endpoint}
use Rattle.endpoint_router.specs.Rows.{has_place, row_at}
use Rattle.core_state.specs.Entries.{AllEnterAt}
use Rattle.core_state.specs.Routers.{router_at}
use Rattle.core_state.specs.Turns.{EntersAt}
use Rattle.core_state.proofs.Entered.{EnteredSoFar, longer_here, next_absent, next_entered, next_placed, none_entered, split_here}
use Rattle.core_state.proofs.entries.enter_all.Goals as goal

pub loop-entry-init : goal.loop-entry-init
loop-entry-init c = none_entered c.args.end c.args.table.now

pub put-requires-clause-absent : goal.put-requires-clause-absent
put-requires-clause-absent c =
    ap (row_at (router_at c.loop-entry.table c.args.end)) c.id.ensures
    ∙ next_absent c.args.entries.now (take c.loop-entry.entry-index c.args.entries.now) c.entry-item.result _ c.args.end c.args.table.now
    c.loop-entry.table (split_here c.args.entries.now c.loop-entry.entry-index c.entry-item.result c.loop-entry-test.true c.entry-item.is)
    c.requires c.loop-entry.invariant

pub put-requires-clause-place : goal.put-requires-clause-place
put-requires-clause-place c =
    subst (λ (id : ℕ). IsTrue (has_place (router_at c.loop-entry.table c.args.end) id)) (sym c.id.ensures)
    (next_placed c.args.entries.now (take c.loop-entry.entry-index c.args.entries.now) c.entry-item.result _ c.args.end c.args.table.now
    c.loop-entry.table (split_here c.args.entries.now c.loop-entry.entry-index c.entry-item.result c.loop-entry-test.true c.entry-item.is)
    c.requires c.loop-entry.invariant)

pub loop-entry-preserved : goal.loop-entry-preserved
loop-entry-preserved c =
    subst (λ (es : List Entry). EnteredSoFar es c.args.end c.args.table.now c.put.new.self)
    (sym (longer_here c.args.entries.now c.loop-entry.entry-index c.entry-item.result c.loop-entry-test.true c.entry-item.is))
    (next_entered c.args.entries.now (take c.loop-entry.entry-index c.args.entries.now) c.entry-item.result _ c.args.end c.args.table.now
    c.loop-entry.table (split_here c.args.entries.now c.loop-entry.entry-index c.entry-item.result c.loop-entry-test.true c.entry-item.is)
    c.requires c.loop-entry.invariant c.put.new.self
    (subst (λ (e : Endpoint). EntersAt e c.args.end c.entry-item.result.id c.loop-entry.table c.put.new.self) c.endpoint.ensures
    (subst (λ (id : ℕ). EntersAt c.endpoint.result c.args.end id c.loop-entry.table c.put.new.self) c.id.ensures c.put.ensures.enters))
    c.put.ensures.stay)

pub returns : goal.returns
returns c =
    subst (λ (es : List Entry). AllEnterAt es c.args.end c.args.table.now c.loop-entry.table)
    (take_all c.loop-entry.entry-index c.args.entries.now c.loop-entry-test.false) c.loop-entry.invariant.enters
