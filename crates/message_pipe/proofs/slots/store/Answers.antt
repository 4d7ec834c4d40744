use Rattle.std.proofs.Common.{◌≡◌, ℕ, [], ◌∷◌, refl, sym, ◌∙◌, subst}
use Rattle.std.specs.Prelude.{None, Some}
use Rattle.slab.specs.Slab.{Updates, get}
use Rattle.message_pipe.proofs.Places.{gains_from, gains_one, same_slots}
use Rattle.message_pipe.proofs.slots.store.Goals as goal

pub insert_reserved-requires : goal.insert_reserved-requires
insert_reserved-requires c = c.in-Some.ensures.room

pub returns-in-Some-clause-ok : goal.returns-in-Some-clause-ok
returns-in-Some-clause-ok c =
    let here : c.insert_reserved.result ≡ c.in-Some.key.at = c.insert_reserved.ensures.key ∙ sym c.in-Some.ensures.key.0 in
    gains_from c.args.messages.now c.ready.new.messages c.insert_reserved.new.self (c.in-Some.key ∷ []) (c.args.message ∷ [])
    (same_slots c.args.messages.now c.ready.new.messages c.ready.ensures.same)
    (gains_one c.ready.new.messages c.insert_reserved.new.self c.in-Some.key c.args.message
    (subst (λ (a : ℕ). get c.ready.new.messages a ≡ None) here c.insert_reserved.ensures.was_vacant)
    (subst (λ (a : ℕ). Updates c.ready.new.messages c.insert_reserved.new.self a (Some c.args.message)) here c.insert_reserved.ensures.updates)
    c.in-Some.ensures.key.1)

pub returns-in-None-clause-err : goal.returns-in-None-clause-err
returns-in-None-clause-err c = (refl, same_slots c.args.messages.now c.ready.new.messages c.ready.ensures.same)
