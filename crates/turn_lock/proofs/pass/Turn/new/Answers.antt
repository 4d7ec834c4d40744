use Rattle.std.proofs.Common.{rules, ◌≡◌, ◌+◌, ◌++◌, [], ◌∷◌, ℕ, List, Some, sym, ap, ◌∙◌, subst}
use Rattle.std.specs.Prelude.{slice_get}
use Rattle.turn_lock.specs.declared.pass.Pass.{Pass}
use Rattle.turn_lock.specs.Passing.{IsFresh, is_based}
use Rattle.turn_lock.proofs.Lists.{each_at}
use Rattle.turn_lock.proofs.pass.Turn.new.Goals as goal

pub loop-preserved : goal.loop-preserved
loop-preserved g c =
    let i = c.loop.invariant in
    let d = i.1 in
    let s = c.deal-pass.ensures in
    let me = s.dealer in
    let new = s.pass.1 in
    let pass = c.deal-pass.result in
    let items : c.push.new.self.items ≡ c.loop.passes.items ++ pass ∷ [] = search rules in
    let base : c.deal-pass.new.dealer.me.0.basis ≡ c.loop.dealer.me.0.basis = ap (λ m. m.0.basis) me in
    let P = Pass g.row.T.Denot g.row.T-Entry.Denot g.row.T-Basis.Denot g.T.Entries in
    let F : ℕ → P → Type 0 = λ k p. (p.number ≡ k)
    × IsFresh c.in-Ok-lay.board.shared.table_id c.deal-pass.new.dealer.me.0.basis k p.place.table_id p.place.me in
    let count : c.len-number.result ≡ c.loop.counter = search rules in
    let last : F c.loop.counter pass
    = (
      s.number ∙ count,
      (
        (s.pass.0 ∙ d.0.0, ap (λ m. m.0.basis) new ∙ sym base),
        ap (λ m. m.0.parts) new
            ∙ ap (λ (n : ℕ). record { number = n; mine = [] } ∷ []) d.2,
        ap (λ m. m.0.seen) new ∙ d.4,
      ),
    ) in (
      i.0,
      (
        (s.table ∙ d.0.0, base ∙ d.0.1),
        (ap (λ m. m.1) me ∙ d.1.0, ap (λ m. m.0.holds) me ∙ d.1.1, ap (λ m. m.0.deals) me ∙ d.1.2, ap is_based base ∙ d.1.3),
        ap (λ m. m.0.made) me ∙ ap (λ k. k + 1) d.2,
        ap (λ m. m.0.parts) me ∙ d.3,
        ap (λ m. m.0.seen) me ∙ d.4,
      ),
      i.2,
      search rules,
      search rules,
      search rules,
      subst (λ (xs : List P). (k : ℕ) (p : P) → slice_get xs k ≡ Some p → F k p) (sym items)
          (each_at F c.loop.passes.items pass (λ k p h. let o = i.6 k p h in (o.0, ((o.1.0.0, o.1.0.1 ∙ sym base), o.1.1, o.1.2)))
          (subst (λ n. F n pass) (sym i.3) last)),
    )
