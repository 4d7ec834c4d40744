use Rattle.std.proofs.Common.{refl, subst, sym, ◌∙◌}
use Rattle.std.specs.Prelude.{IsSome, Option}
use Rattle.std.specs.Option.{option_map}
use Rattle.bind_model.specs.Names.{endpoint_name}
use Rattle.slab.proofs.SlabLemmas.{Updates-with_value}
use Rattle.endpoint_router.specs.Turns.{turn_of}
use Rattle.endpoint_router.specs.declared.row.Row.{Row}
use Rattle.endpoint_router.specs.Slots.{slot_at}
use Rattle.endpoint_router.specs.steps.SlotChanges.{MayTurn}
use Rattle.endpoint_router.proofs.SlotLemmas.{becomes, nothing, occupied, row_here}
use Rattle.endpoint_router.proofs.slots.turn.Goals as goal

pub index_mut-placed-requires : goal.index_mut-placed-requires
index_mut-placed-requires c =
    occupied (slot_at c.args.rows.now.slots c.in-Some.key) (endpoint_name c.args.end c.args.id)
    (c.requires.named c.args.end c.args.id c.in-Some.key (sym c.key.ensures ∙ c.in-Some.is))

pub turn-requires : goal.turn-requires
turn-requires c =
    subst (λ (row : Option Row). MayTurn row c.args.turn)
    (row_here c.args.index.now c.args.rows.now.slots c.args.end c.args.id c.in-Some.key c.index_mut-placed.result.now
    (sym c.key.ensures ∙ c.in-Some.is) c.index_mut-placed.ensures.value) c.requires.may

pub returns-in-Some : goal.returns-in-Some
returns-in-Some c =
    becomes c.args.index.now c.args.rows.now _ c.args.end c.args.id c.in-Some.key c.index_mut-placed.result.now
    (record { name = c.index_mut-placed.result.now.name; row = c.turn.new.place }) c.requires.named (sym c.key.ensures ∙ c.in-Some.is)
    c.index_mut-placed.ensures.value refl
    (Updates-with_value c.args.rows.now c.in-Some.key _ (subst IsSome (sym c.index_mut-placed.ensures.value) refl))
    (option_map (turn_of c.args.turn)) c.turn.ensures

pub returns-in-None : goal.returns-in-None
returns-in-None c =
    nothing (option_map (turn_of c.args.turn)) c.args.index.now c.args.rows.now.slots c.args.end c.args.id c.requires.named
    (sym c.key.ensures ∙ c.in-None.is) refl
