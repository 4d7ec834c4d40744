use Rattle.std.proofs.Common.{rules, ◌≡◌, ◌++◌, [], ◌∷◌, length, Some, refl, sym, ap, ◌∙◌, subst, ⊎_elim}
use Rattle.std.specs.Prelude.{slice_get}
use Rattle.bind_hub.specs.declared.shared.Hub.{Hub}
use Rattle.bind_hub.specs.Passes.{IsPassOf}
use Rattle.turn_lock.proofs.Lists.{got_snoc, got_front, got_last}
use Rattle.machine_tests.proofs.own_write.work_alone.Goals as goal

pub new-seat-requires : goal.new-seat-requires
new-seat-requires g c =
    let p0 = c.in-Some.pass in
    let xs = c.pop.new.self.items in
    let items : c.args.passes.items ≡ xs ++ p0 ∷ [] = search rules in
    c.requires.passes (length xs) p0 (subst (λ ys. slice_get ys (length xs) ≡ Some p0) (sym items) (got_last xs p0))

pub returns-clause-passes : goal.returns-clause-passes
returns-clause-passes g c k q h =
    let p0 = c.in-Some.pass in
    let xs = c.pop.new.self.items in
    let seat = c.write_and_take-x.new.seat in
    let q0 = c.into_pass-back.result in
    let items : c.args.passes.items ≡ xs ++ p0 ∷ [] = search rules in
    let more : c.push_reserved.new.self.items ≡ xs ++ q0 ∷ [] = search rules in
    let hub_is : seat.hub.now ≡ c.args.hub.now = c.write_and_take-x.ensures.hub ∙ c.new-seat.ensures.0 in
    let same : q0 ≡ seat.pass = c.into_pass-back.ensures.pass in
    ⊎_elim (λ there. c.requires.passes k q (subst (λ ys. slice_get ys k ≡ Some q) (sym items) (got_front xs p0 q k there)))
    (λ (e : (q0 ≡ q) × (k ≡ length xs)). subst (λ p. IsPassOf c.args.hub.now.turn.board.shared.table_id
    c.args.hub.now.turn.board.shared.key.0.value.core.schema c.args.hub.now.turn.board.shared.key.0.value.core.seqs p.number p.place.table_id p.place.me.0)
    (sym same ∙ e.0)
    (subst (λ (z : Hub). IsPassOf z.turn.board.shared.table_id z.turn.board.shared.key.0.value.core.schema z.turn.board.shared.key.0.value.core.seqs
    seat.pass.number seat.pass.place.table_id seat.pass.place.me.0)
    hub_is seat.is_pass))
    (got_snoc xs q0 q k (subst (λ ys. slice_get ys k ≡ Some q) more h))

pub returns-clause-each : goal.returns-clause-each
returns-clause-each g c k p h =
    let p0 = c.in-Some.pass in
    let xs = c.pop.new.self.items in
    let q0 = c.into_pass-back.result in
    let items : c.args.passes.items ≡ xs ++ p0 ∷ [] = search rules in
    let more : c.push_reserved.new.self.items ≡ xs ++ q0 ∷ [] = search rules in
    let number : q0.number ≡ p0.number = ap (λ y. y.number) c.into_pass-back.ensures.pass
    ∙ (c.write_and_take-x.ensures.number ∙ ap (λ y. y.number) c.new-seat.ensures.1) in
    ⊎_elim (λ there. (k, p, subst (λ ys. slice_get ys k ≡ Some p) (sym more) (got_front xs q0 p k there), refl))
    (λ (e : (p0 ≡ p) × (k ≡ length xs)). (
      length xs,
      q0,
      subst (λ ys. slice_get ys (length xs) ≡ Some q0) (sym more) (got_last xs q0),
      number ∙ ap (λ y. y.number) e.0,
    ))
    (got_snoc xs p0 p k (subst (λ ys. slice_get ys k ≡ Some p) items h))
