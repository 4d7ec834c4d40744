use Rattle.std.proofs.Common.{◌≡◌, ℕ, [], ◌∷◌, refl, sym, subst, ◌∙◌}
use Rattle.std.specs.Prelude.{None, Some}
use Rattle.slab.specs.Slab.{Updates, get}
use Rattle.message_pipe.proofs.Places.{gains_one}
use Rattle.message_pipe.proofs.queueing.queue.Goals as goal

pub returns-in-Ok-clause-ok : goal.returns-in-Ok-clause-ok
returns-in-Ok-clause-ok c =
    let here : c.insert_reserved.result ≡ c.args.key.at = c.insert_reserved.ensures.key ∙ sym c.requires.key.0 in
    record {
      keys = c.args.key ∷ [];
      gains = gains_one c.args.messages.now c.insert_reserved.new.self c.args.key c.args.message
          (subst (λ (a : ℕ). get c.args.messages.now a ≡ None) here c.insert_reserved.ensures.was_vacant)
          (subst (λ (a : ℕ). Updates c.args.messages.now c.insert_reserved.new.self a (Some c.args.message)) here c.insert_reserved.ensures.updates)
          c.requires.key.1;
      queued = c.in-Ok.ensures.ok;
    }

pub returns-in-Err-clause-err : goal.returns-in-Err-clause-err
returns-in-Err-clause-err c = (refl, c.in-Err.ensures.err.1, refl)
