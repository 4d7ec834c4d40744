use Rattle.std.proofs.Common.{None, ℕ, refl, subst, sym, ◌∙◌}
use Rattle.std.specs.Prelude.{IsSome, IsTrue, Option}
use Rattle.bind_model.specs.Names.{endpoint_name}
use Rattle.slab.proofs.SlabLemmas.{Updates-with_value}
use Rattle.slab.specs.Slab.{with_value}
use Rattle.endpoint_router.specs.Rows.{has_room, seen_in}
use Rattle.endpoint_router.specs.declared.slot.Placed.{Placed}
use Rattle.endpoint_router.specs.declared.row.Row.{Row}
use Rattle.endpoint_router.specs.Slots.{slot_at}
use Rattle.endpoint_router.specs.steps.SlotChanges.{row_under}
use Rattle.endpoint_router.proofs.Placed.{is_there}
use Rattle.endpoint_router.proofs.SlotLemmas.{named_after, occupied, on_ok, row_here, rows_stay}
use Rattle.endpoint_router.proofs.slots.reserve_draw.Goals as goal

pub index_mut-placed-requires : goal.index_mut-placed-requires
index_mut-placed-requires c =
    occupied (slot_at c.args.rows.now.slots c.in-Some.key) (endpoint_name c.args.end c.args.id)
    (c.requires.named c.args.end c.args.id c.in-Some.key (sym c.key.ensures ∙ c.in-Some.is))

pub reserve-requires : goal.reserve-requires
reserve-requires c = record {
  there = is_there c.index_mut-placed.result.now.row
      (subst (λ (row : Option Row). IsSome (seen_in row))
      (row_here c.args.index.now c.args.rows.now.slots c.args.end c.args.id c.in-Some.key c.index_mut-placed.result.now
      (sym c.key.ensures ∙ c.in-Some.is) c.index_mut-placed.ensures.value) c.requires.there);
}

pub returns-in-Some-clause-rows : goal.returns-in-Some-clause-rows
returns-in-Some-clause-rows c =
    rows_stay c.args.index.now c.args.rows.now _ c.args.end c.args.id c.in-Some.key c.index_mut-placed.result.now
    (record { name = c.index_mut-placed.result.now.name; row = c.reserve.new.place }) c.requires.named (sym c.key.ensures ∙ c.in-Some.is)
    c.index_mut-placed.ensures.value refl
    (Updates-with_value c.args.rows.now c.in-Some.key _ (subst IsSome (sym c.index_mut-placed.ensures.value) refl)) c.reserve.ensures.same

pub returns-in-Some-clause-named : goal.returns-in-Some-clause-named
returns-in-Some-clause-named c =
    named_after c.args.index.now c.args.rows.now _ c.args.end c.args.id c.in-Some.key c.index_mut-placed.result.now
    (record { name = c.index_mut-placed.result.now.name; row = c.reserve.new.place }) c.requires.named (sym c.key.ensures ∙ c.in-Some.is)
    c.index_mut-placed.ensures.value refl
    (Updates-with_value c.args.rows.now c.in-Some.key _ (subst IsSome (sym c.index_mut-placed.ensures.value) refl))

pub returns-in-Some-clause-room : goal.returns-in-Some-clause-room
returns-in-Some-clause-room c =
    let now : Placed = record { name = c.index_mut-placed.result.now.name; row = c.reserve.new.place } in
    on_ok c.reserve.result
    (λ room. subst (λ (row : Option Row). IsTrue (has_room row))
    (sym (row_here c.args.index.now (with_value c.args.rows.now c.in-Some.key now).slots c.args.end c.args.id c.in-Some.key now
    (sym c.key.ensures ∙ c.in-Some.is)
    (Updates-with_value c.args.rows.now c.in-Some.key now (subst IsSome (sym c.index_mut-placed.ensures.value) refl)).changed)) room)
    c.reserve.ensures.room

pub returns-in-None-clause-rows : goal.returns-in-None-clause-rows
returns-in-None-clause-rows c = λ y n. refl

pub returns-in-None-clause-named : goal.returns-in-None-clause-named
returns-in-None-clause-named c = c.requires.named

pub returns-in-None-clause-room : goal.returns-in-None-clause-room
returns-in-None-clause-room c =
    let none : IsSome (seen_in (row_under c.args.rows.now.slots None)) =
    subst (λ (o : Option ℕ). IsSome (seen_in (row_under c.args.rows.now.slots o))) (sym c.key.ensures ∙ c.in-None.is) c.requires.there in
    absurd cc
