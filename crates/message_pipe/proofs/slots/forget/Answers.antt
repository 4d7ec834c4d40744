use Rattle.std.proofs.Common.{◌≡◌, ◌+◌, ◌<◌, List, [], ◌∷◌, ◌++◌, length, take, refl, sym, subst, arith}
use Rattle.std.proofs.lemmas.List.{take_all}
use Rattle.queued_keys.specs.declared.key.Key.{Key}
use Rattle.message_pipe.specs.steps.SlotChanges.{Loses}
use Rattle.message_pipe.proofs.Places.{loses_more, next_key}
use Rattle.message_pipe.proofs.slots.forget.Goals as goal

pub loop-number-init : goal.loop-number-init
loop-number-init c = λ a. refl

pub loop-number-preserved : goal.loop-number-preserved
loop-number-preserved c =
    let keys = c.args.keys.now.items in
    let below : c.loop-number.number < length keys = omega (arith, c.loop-number-test.true, c.len-number-end.ensures, c.args.keys.now.ok.0) in
    let more : take (c.loop-number.number + 1) keys ≡ take c.loop-number.number keys ++ c.index-key.result.now ∷ [] =
    next_key keys c.loop-number.number c.index-key.result.now below c.index-key.ensures in
    subst (λ (ks : List Key). Loses c.args.messages.now c.try_remove.new.self ks) (sym more)
    (loses_more c.args.messages.now c.loop-number.messages c.try_remove.new.self (take c.loop-number.number keys) c.index-key.result.now
    c.loop-number.invariant c.try_remove.ensures.updates)

pub returns : goal.returns
returns c =
    subst (λ (ks : List Key). Loses c.args.messages.now c.loop-number.messages ks)
    (take_all c.loop-number.number c.args.keys.now.items (omega (arith, c.loop-number-test.false, c.len-number-end.ensures, c.args.keys.now.ok.0)))
    c.loop-number.invariant
