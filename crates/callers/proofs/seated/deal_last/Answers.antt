use Rattle.std.proofs.Common.{rules, ◌≡◌, ◌++◌, [], ◌∷◌, length, Some, sym, subst, ⊎_elim}
use Rattle.std.specs.Prelude.{slice_get}
use Rattle.bind_hub.specs.Passes.{IsPassOf}
use Rattle.turn_lock.proofs.Lists.{got_front, got_last, got_snoc, nothing_got}
use Rattle.callers.proofs.seated.deal_last.Goals as goal

pub deal_seated-again-requires-clause-pass : goal.deal_seated-again-requires-clause-pass
deal_seated-again-requires-clause-pass g c =
    let first = c.in-Some.pass in
    let xs = c.pop.new.self.items in
    let items : c.args.passes.items ≡ xs ++ first ∷ [] = search rules in
    c.requires.passes (length xs) first (subst (λ ys. slice_get ys (length xs) ≡ Some first) (sym items) (got_last xs first))

pub returns-in-Some-clause-passes : goal.returns-in-Some-clause-passes
returns-in-Some-clause-passes g c k q h =
    let hub = c.args.hub.now in
    let first = c.in-Some.pass in
    let again = c.deal_seated-again.result.0 in
    let xs = c.pop.new.self.items in
    let items : c.args.passes.items ≡ xs ++ first ∷ [] = search rules in
    let more : c.push_reserved.new.self.items ≡ xs ++ again ∷ [] = search rules in
    ⊎_elim
    (λ there. c.requires.passes k q (subst (λ ys. slice_get ys k ≡ Some q) (sym items) (got_front xs first q k there)))
    (λ (last : (again ≡ q) × (k ≡ length xs)). subst (λ p. IsPassOf hub.turn.board.shared.table_id hub.turn.board.shared.key.0.value.core.schema
    hub.turn.board.shared.key.0.value.core.seqs p.number p.place.table_id p.place.me.0) last.0 c.deal_seated-again.ensures)
    (got_snoc xs again q k (subst (λ ys. slice_get ys k ≡ Some q) more h))

pub returns-in-None-clause-passes : goal.returns-in-None-clause-passes
returns-in-None-clause-passes g c k q h =
    let none : c.pop.new.self.items ≡ [] = search rules in
    absurd (nothing_got c.pop.new.self.items k q none h)
