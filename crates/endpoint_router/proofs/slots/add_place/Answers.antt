use Rattle.std.proofs.Common.{ℕ, None, Some, refl, subst, sym, ◌∙◌}
use Rattle.std.proofs.lemmas.Result.{err_from_is_err_and}
use Rattle.bind_model.specs.Names.{endpoint_name}
use Rattle.slab.specs.Slab.{Updates}
use Rattle.endpoint_router.specs.Slots.{AreNamed, Slots}
use Rattle.endpoint_router.specs.steps.SlotChanges.{Places}
use Rattle.endpoint_router.proofs.SlotLemmas.{placed, slots_kept}
use Rattle.endpoint_router.proofs.slots.add_place.Goals as goal

pub returns-in_err-reserve-clause-err : goal.returns-in_err-reserve-clause-err
returns-in_err-reserve-clause-err c =
    let p = err_from_is_err_and c.from_residual.result c.from_residual.ensures.1 in
    rw p.1 (refl, slots_kept c.args.rows.now c.reserve.new.self c.in_err-reserve.ensures.rest_kept)

pub returns-in_err-add-clause-err : goal.returns-in_err-add-clause-err
returns-in_err-add-clause-err c =
    let p = err_from_is_err_and c.from_residual-in_err-add.result c.from_residual-in_err-add.ensures.1 in
    rw p.1 (c.in_err-add.ensures.err, slots_kept c.args.rows.now c.reserve.new.self c.in_ok-reserve.ensures.rest_kept)

pub returns-clause-ok : goal.returns-clause-ok
returns-clause-ok c =
    let same = slots_kept c.args.rows.now c.reserve.new.self c.in_ok-reserve.ensures.rest_kept in
    subst (λ (slots : Slots). Places c.args.end c.args.id c.args.index.now slots c.add.new.self c.insert_reserved.new.self.slots) same
    (placed c.args.index.now c.add.new.self c.reserve.new.self c.insert_reserved.new.self c.args.end c.args.id c.vacant_key-key.result
    (subst (λ (slots : Slots). AreNamed c.args.index.now slots) (sym same) c.requires.named) c.requires.absent c.vacant_key-key.ensures.vacant
    c.in_ok-add.ensures.ok
    (subst (λ (key : ℕ). Updates c.reserve.new.self c.insert_reserved.new.self key
    (Some (record { name = endpoint_name c.args.end c.args.id; row = None })))
    (c.insert_reserved.ensures.key ∙ sym c.vacant_key-key.ensures.value) c.insert_reserved.ensures.updates))
