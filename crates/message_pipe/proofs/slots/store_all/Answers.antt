use Rattle.std.proofs.Common.{◌≡◌, List, [], ◌∷◌, ◌++◌, sym, ap, subst, ◌∙◌, append_assoc, append-nil, arith}
use Rattle.std.proofs.lemmas.List.{nil_from_length}
use Rattle.std.proofs.lemmas.Result.{err_from_is_err_and}
use Rattle.queued_keys.specs.declared.key.Key.{Key}
use Rattle.message_pipe.specs.declared.message.Message.{Message}
use Rattle.message_pipe.specs.steps.SlotChanges.{Gains}
use Rattle.message_pipe.proofs.Places.{gains_both, gains_none, gains_onto}
use Rattle.message_pipe.proofs.slots.store_all.Goals as goal

pub loop-message-init : goal.loop-message-init
loop-message-init c = record {
  done = [];
  gains = subst (λ (ks : List Key). Gains c.args.messages.now c.args.messages.now ks []) (sym c.requires) (gains_none c.args.messages.now);
  whole = c.from_vec-rest.ensures.items;
}

pub loop-message-preserved : goal.loop-message-preserved
loop-message-preserved c =
    let before = c.loop-message.invariant in
    let put = c.in_ok-store_next.ensures.ok in
    let both : Gains c.args.messages.now c.store_next.new.messages (c.loop-message.stored.items ++ put.0 ∷ []) (before.done ++ c.in-Some.message ∷ []) =
    gains_both c.args.messages.now c.loop-message.messages c.store_next.new.messages c.loop-message.stored.items (put.0 ∷ []) before.done
    (c.in-Some.message ∷ []) before.gains put.2 in
    record {
      done = before.done ++ c.in-Some.message ∷ [];
      gains = subst (λ (ks : List Key). Gains c.args.messages.now c.store_next.new.messages ks (before.done ++ c.in-Some.message ∷ []))
          (sym put.1) both;
      whole = append_assoc before.done (c.in-Some.message ∷ []) c.pop_front.new.self.items
          ∙ (ap (λ (ms : List Message). before.done ++ ms) (sym c.in-Some.ensures.items) ∙ before.whole);
    }

pub returns-clause-ok : goal.returns-clause-ok
returns-clause-ok c =
    let before = c.loop-message.invariant in
    let over : c.loop-message.rest.items ≡ [] = nil_from_length c.loop-message.rest.items
    (omega (arith, c.loop-message.rest.ok.0, c.in_default.ensures.cases.0)) in
    subst (λ (ms : List Message). Gains c.args.messages.now c.loop-message.messages c.loop-message.stored.items ms)
    (sym (append-nil before.done) ∙ (ap (λ (ms : List Message). before.done ++ ms) (sym over) ∙ before.whole)) before.gains

pub returns-in_err-store_next-clause-err : goal.returns-in_err-store_next-clause-err
returns-in_err-store_next-clause-err c =
    let before = c.loop-message.invariant in
    let none = c.in_err-store_next.ensures.err in
    let p = err_from_is_err_and c.from_residual.result c.from_residual.ensures.1 in
    rw p.1 (
      before.done,
      subst (λ (ks : List Key). Gains c.args.messages.now c.store_next.new.messages ks before.done) (sym none.0)
          (gains_onto c.args.messages.now c.loop-message.messages c.store_next.new.messages c.loop-message.stored.items before.done none.1 before.gains),
    )
