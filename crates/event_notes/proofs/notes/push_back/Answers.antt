use Rattle.std.proofs.Common.{◌≡◌, ◌∙◌, ◌+◌, ◌-◌, ◌++◌, ℕ, List, [], ◌∷◌, ap, arith, drop, length, refl, sym, subst}
use Rattle.std.specs.Prelude.{reverse}
use Rattle.std.proofs.lemmas.List.{append-nil, drop_all}
use Rattle.bind_model.specs.Seen.{own_of}
use Rattle.bind_model.specs.declared.event.Event.{Event}
use Rattle.callback_laws.specs.Callbacks.{callbacks_in}
use Rattle.event_notes.specs.steps.Got.{Knows}
use Rattle.event_notes.proofs.Noting.{drop_at}
use Rattle.event_notes.proofs.notes.push_back.Goals as goal

pub loop-at-init : goal.loop-at-init
loop-at-init c =
    let events = c.args.events.now in
    let none : drop (length events) events ≡ [] = drop_all (length events) events (omega arith) in
    record {
      most = omega arith;
      knows =
          subst (λ (es : List Event). Knows c.new-answered.result (own_of c.args.seq es)) (sym none)
          (subst (λ names. Knows names []) (sym c.new-answered.ensures) (λ q. refl));
      back =
          sym (append-nil c.args.notes.now.items)
          ∙ ap (λ (es : List Event). c.args.notes.now.items ++ reverse (callbacks_in (own_of c.args.seq es))) (sym none);
    }

pub event_at-requires : goal.event_at-requires
event_at-requires c = omega (arith, c.loop-at.invariant.most, c.loop-at-test.true)

pub loop-at-preserved : goal.loop-at-preserved
loop-at-preserved c =
    let events = c.args.events.now in
    let k : ℕ = c.loop-at.at - 1 in
    let next : k + 1 ≡ c.loop-at.at = omega (arith, c.loop-at-test.true) in
    let later = drop c.loop-at.at events in
    let here : c.event_at.result.now ∷ later ≡ drop k events =
    sym (drop_at events k c.event_at.result.now c.event_at.ensures ∙ ap (λ (n : ℕ). c.event_at.result.now ∷ drop n events) next) in
    let i = c.loop-at.invariant in
    record {
      most = omega (arith, i.most);
      knows =
          subst (λ (es : List Event). Knows c.note_own.new.answered (own_of c.args.seq es)) here
          (c.in_ok-note_own.ensures.knows later i.knows);
      back =
          subst (λ (es : List Event). c.note_own.new.notes.items ≡ c.args.notes.now.items ++ reverse (callbacks_in (own_of c.args.seq es))) here
          (c.in_ok-note_own.ensures.back c.args.notes.now.items later i.knows i.back);
    }

pub returns : goal.returns
returns c =
    let none : c.loop-at.at ≡ 0 = omega (arith, c.loop-at-test.false) in
    subst (λ (n : ℕ). c.loop-at.notes.items ≡ c.args.notes.now.items ++ reverse (callbacks_in (own_of c.args.seq (drop n c.args.events.now))))
    none c.loop-at.invariant.back
