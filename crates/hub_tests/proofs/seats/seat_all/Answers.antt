use Rattle.std.proofs.Common.{rules, ◌≡◌, ◌++◌, [], ◌∷◌, List, length, Some, sym, ap, ◌∙◌, subst, inl, inr, ⊎_elim}
use Rattle.std.specs.Prelude.{slice_get}
use Rattle.hub_tests.specs.declared.pipes.Row.{Row}
use Rattle.turn_lock.proofs.Lists.{got_snoc, got_front, got_last, nothing_got}
use Rattle.hub_tests.proofs.seats.seat_all.Goals as goal

pub new-seat-requires : goal.new-seat-requires
new-seat-requires g c =
    let i = c.loop-pass.invariant in
    let p0 = c.in-Some.pass in
    let xs = c.pop.new.self.items in
    let items : c.loop-pass.passes.items ≡ xs ++ p0 ∷ [] = search rules in
    c.requires.passes (length xs) p0 (i.4 (length xs) p0 (subst (λ ys. slice_get ys (length xs) ≡ Some p0) (sym items) (got_last xs p0)))

pub loop-pass-preserved : goal.loop-pass-preserved
loop-pass-preserved g c =
    let i = c.loop-pass.invariant in
    let R = Row g.row.R.Denot in
    let p0 = c.in-Some.pass in
    let xs = c.pop.new.self.items in
    let rs = c.loop-pass.rows.items in
    let row0 : R = record { seat = c.new-seat.result; told = c.new.result } in
    let items : c.loop-pass.passes.items ≡ xs ++ p0 ∷ [] = search rules in
    let more : c.push_reserved.new.self.items ≡ rs ++ row0 ∷ [] = search rules in (
      search rules,
      search rules,
      search rules,
      (λ j row h. ⊎_elim (λ q. i.3 j row q)
          (λ (q : (row0 ≡ row) × (j ≡ length rs)). ap (λ (y : R). y.seat.hub.now) (sym q.0) ∙ c.new-seat.ensures.0)
          (got_snoc rs row0 row j (subst (λ (ys : List R). slice_get ys j ≡ Some row) more h))),
      (λ k p h. i.4 k p (subst (λ ys. slice_get ys k ≡ Some p) (sym items) (got_front xs p0 p k h))),
      (λ k p h. ⊎_elim
          (λ there. ⊎_elim (λ q. inl q)
          (λ (q : (p0 ≡ p) × (k ≡ length xs)). inr
          (length rs, row0, subst (λ (ys : List R). slice_get ys (length rs) ≡ Some row0) (sym more) (got_last rs row0), c.new-seat.ensures.1 ∙ q.0))
          (got_snoc xs p0 p k (subst (λ ys. slice_get ys k ≡ Some p) items there)))
          (λ b. inr (b.0, b.1, subst (λ (ys : List R). slice_get ys b.0 ≡ Some b.1) (sym more) (got_front rs row0 b.1 b.0 b.2), b.3))
          (i.5 k p h)),
    )

pub returns-clause-each : goal.returns-clause-each
returns-clause-each g c k p h =
    let i = c.loop-pass.invariant in
    let none : c.loop-pass.passes.items ≡ [] = search rules in
    ⊎_elim (λ q. absurd (nothing_got _ k p none q)) (λ b. b) (i.5 k p h)
