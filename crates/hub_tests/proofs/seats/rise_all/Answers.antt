use Rattle.std.proofs.Common.{rules, ◌≡◌, ◌++◌, [], ◌∷◌, List, length, Some, refl, sym, ◌∙◌, subst, inl, inr, ⊎_elim, arith}
use Rattle.std.specs.Prelude.{slice_get}
use Rattle.hub_tests.specs.declared.pipes.Row.{Row}
use Rattle.turn_lock.proofs.Lists.{got_snoc, got_front, got_last, nothing_got}
use Rattle.hub_tests.proofs.seats.rise_all.Goals as goal

empty_of : {X : Type 0} (xs : List X) → length xs ≡ 0 → xs ≡ []
empty_of [] e = refl
empty_of (x ∷ xs) e = absurd (omega arith)

pub loop-row-preserved : goal.loop-row-preserved
loop-row-preserved g c =
    let i = c.loop-row.invariant in
    let R = Row g.row.R.Denot in
    let row0 = c.in-Some.row in
    let xs = c.pop.new.self.items in
    let ps = c.loop-row.passes.items in
    let p0 = row0.seat.pass in
    let items : c.loop-row.rows.items ≡ xs ++ row0 ∷ [] = search rules in
    let more : c.push_reserved.new.self.items ≡ ps ++ p0 ∷ [] = search rules in
    let here : slice_get c.loop-row.rows.items (length xs) ≡ Some row0
    = subst (λ (ys : List R). slice_get ys (length xs) ≡ Some row0) (sym items) (got_last xs row0) in (
      search rules,
      search rules,
      search rules,
      search rules,
      (λ j row h. i.4 j row (subst (λ (ys : List R). slice_get ys j ≡ Some row) (sym items) (got_front xs row0 row j h))),
      (λ j row h. ⊎_elim
          (λ there. ⊎_elim (λ q. inl q)
          (λ (q : (row0 ≡ row) × (j ≡ length xs)). inr (
            length ps,
            subst (λ (y : R). slice_get c.push_reserved.new.self.items (length ps) ≡ Some y.seat.pass) q.0
                (subst (λ ys. slice_get ys (length ps) ≡ Some p0) (sym more) (got_last ps p0)),
          ))
          (got_snoc xs row0 row j (subst (λ (ys : List R). slice_get ys j ≡ Some row) items there)))
          (λ b. inr (b.0, subst (λ ys. slice_get ys b.0 ≡ Some row.seat.pass) (sym more) (got_front ps p0 row.seat.pass b.0 b.1)))
          (i.5 j row h)),
      (λ k p h. ⊎_elim
          (λ q. i.6 k p q)
          (λ (q : (p0 ≡ p) × (k ≡ length ps)). (length xs, row0, i.4 (length xs) row0 here, q.0))
          (got_snoc ps p0 p k (subst (λ ys. slice_get ys k ≡ Some p) more h))),
    )

pub returns-clause-each : goal.returns-clause-each
returns-clause-each g c j row h =
    let i = c.loop-row.invariant in
    let none : c.loop-row.rows.items ≡ [] = let e = c.in_default.ensures.cases in empty_of c.loop-row.rows.items (omega arith) in
    ⊎_elim (λ q. absurd (nothing_got _ j row none q)) (λ b. b) (i.5 j row h)
