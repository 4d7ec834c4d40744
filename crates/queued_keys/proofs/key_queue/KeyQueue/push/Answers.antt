use Rattle.std.proofs.Common.{arith, sym, ◌∙◌, ap, length, ◌∷◌, [], refl, ◌+◌, ◌≤◌, ◌≡◌}
use Rattle.std.proofs.lemmas.List.{length-append}
use Rattle.queued_keys.specs.Keys.{weighs}
use Rattle.queued_keys.proofs.Weighing.{weighs_most, weighs_more}
use Rattle.queued_keys.proofs.key_queue.KeyQueue.push.Goals as goal

pub overflow_add-self : goal.overflow_add-self
overflow_add-self c =
    let most : c.self.inside.counted ≤ length c.self.inside.keys.items = rw c.self.invariant (weighs_most c.self.inside.keys.items) in
    let longer : length c.push_back.new.self.items ≡ length c.self.inside.keys.items + 1 = ap length c.in_default.ensures.items
    ∙ length-append c.self.inside.keys.items (c.args.key ∷ []) in
    let more : c.self.inside.counted + 1 ≤ c.push_back.new.self.len = omega (arith, most, longer, c.push_back.new.self.ok.0) in
    record { fits = omega (arith, more, c.push_back.new.self.ok.1, c.push_back.new.self.small) }

pub invariant_of-self-then-not-emitted : goal.invariant_of-self-then-not-emitted
invariant_of-self-then-not-emitted c = ap (λ k. k + 1) c.self.invariant
    ∙ sym (ap weighs (c.in_default.ensures.items) ∙ (weighs_more c.self.inside.keys.items c.args.key ∙ rw c.if-not-emitted.true refl))

pub invariant_of-self-else-not-emitted : goal.invariant_of-self-else-not-emitted
invariant_of-self-else-not-emitted c = c.self.invariant ∙ sym
    (ap weighs (c.in_default.ensures.items) ∙ (weighs_more c.self.inside.keys.items c.args.key ∙ rw c.if-not-emitted.false (omega arith)))
