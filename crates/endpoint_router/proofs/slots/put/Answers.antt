use Rattle.std.proofs.Common.{◌≡◌, ℕ, Some, ap, false, refl, subst, sym, true, ◌∙◌}
use Rattle.std.specs.Prelude.{IsSome, Option, is_some}
use Rattle.bind_model.specs.Names.{endpoint_name}
use Rattle.slab.proofs.SlabLemmas.{Updates-with_value}
use Rattle.endpoint_router.specs.Rows.{RowSeen, row_seen}
use Rattle.endpoint_router.specs.Slots.{key_in, slot_at}
use Rattle.endpoint_router.proofs.SlotLemmas.{becomes, occupied}
use Rattle.endpoint_router.proofs.slots.put.Goals as goal

pub index_mut-placed-requires : goal.index_mut-placed-requires
index_mut-placed-requires c =
    occupied (slot_at c.args.rows.now.slots c.in-Some.key) (endpoint_name c.args.end c.args.id)
    (c.requires.named c.args.end c.args.id c.in-Some.key (sym c.key.ensures ∙ c.in-Some.is))

pub returns-in-Some : goal.returns-in-Some
returns-in-Some c =
    becomes c.args.index.now c.args.rows.now _ c.args.end c.args.id c.in-Some.key c.index_mut-placed.result.now
    (record { name = c.index_mut-placed.result.now.name; row = c.put.new.place }) c.requires.named (sym c.key.ensures ∙ c.in-Some.is)
    c.index_mut-placed.ensures.value refl
    (Updates-with_value c.args.rows.now c.in-Some.key _ (subst IsSome (sym c.index_mut-placed.ensures.value) refl))
    (λ (before : Option RowSeen). Some (row_seen c.args.row)) c.put.ensures

pub returns-in-None : goal.returns-in-None
returns-in-None c =
    let none : is_some (key_in c.args.index.now c.args.end c.args.id) ≡ false =
    ap (λ (o : Option ℕ). is_some o) (sym c.key.ensures ∙ c.in-None.is) in
    let clash : true ≡ false = sym c.requires.place ∙ none in
    absurd cc
