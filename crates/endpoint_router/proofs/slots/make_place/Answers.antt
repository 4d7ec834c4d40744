use Rattle.std.proofs.Common.{ℕ, ap, sym, ◌∙◌}
use Rattle.std.specs.Prelude.{Option, is_some}
use Rattle.endpoint_router.proofs.SlotLemmas.{placed_already}
use Rattle.endpoint_router.proofs.slots.make_place.Goals as goal

pub add_place-requires-clause-named : goal.add_place-requires-clause-named
add_place-requires-clause-named c = c.requires

pub add_place-requires-clause-absent : goal.add_place-requires-clause-absent
add_place-requires-clause-absent c = sym c.key.ensures ∙ c.in-None.is

pub returns-in-Some-clause-ok : goal.returns-in-Some-clause-ok
returns-in-Some-clause-ok c =
    placed_already c.args.index.now c.args.rows.now.slots c.args.end c.args.id c.requires
    (ap (λ (o : Option ℕ). is_some o) (sym c.key.ensures ∙ c.in-Some.is))
