use Rattle.std.proofs.Common.{◌≡◌, ◌+◌, ◌<◌, ℕ, Bool, true, false, not, cond, is_some, ap, sym, ◌∙◌, refl, arith}
use Rattle.std.specs.FinMap.{retain_keys}
use Rattle.std.proofs.lemmas.Bool.{true≢false, not_from_true}
use Rattle.response_map.specs.Contents.{callbacks_of}
use Rattle.response_map.specs.steps.Scopes.{has}
use Rattle.response_map.proofs.Callbacks.{get_in, taken_from, one_dropped, all_dropped}
use Rattle.response_map.proofs.settled.drop_settled.Goals as goal

fewer : (b : Bool) (m n : ℕ) → b ≡ true → m + cond b 1 0 ≡ n → m < n
fewer true m n is e = omega arith
fewer false m n is e = absurd (true≢false (sym is))

unturned : (b : Bool) → not b ≡ false → b ≡ true
unturned true e = refl
unturned false e = absurd (true≢false e)

pub loop-key-preserved-in-Some : goal.loop-key-preserved-in-Some
loop-key-preserved-in-Some g c =
    ap (λ m. retain_keys m (λ x. not (has c.args.scope x))) (taken_from c.loop-key.callbacks c.remove.new.self c.in-Some.key c.remove.ensures.updates)
    ∙ one_dropped (callbacks_of c.loop-key.callbacks) (λ x. not (has c.args.scope x)) c.in-Some.key (not_from_true _ c.in-Some.ensures.found.0)
    ∙ c.loop-key.invariant

pub loop-key-smaller : goal.loop-key-smaller
loop-key-smaller g c = fewer (is_some c.remove.result) _ _
    (ap is_some (c.remove.ensures.value ∙ sym (get_in c.loop-key.callbacks c.in-Some.key)) ∙ c.in-Some.ensures.found.1) c.remove.ensures.len

pub returns : goal.returns
returns g c =
    sym (all_dropped (callbacks_of c.loop-key.callbacks) (λ x. not (has c.args.scope x))
    (λ x goes. c.in_default.ensures.none x (unturned (has c.args.scope x) goes)))
    ∙ c.loop-key.invariant
