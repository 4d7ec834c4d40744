use Rattle.std.proofs.Common.{rules, ◌≡◌, ◌<◌, ◌++◌, ◌⊎◌, [], ◌∷◌, List, length, Some, refl, sym, ap, ◌∙◌, subst, inl, inr, ⊎_elim}
use Rattle.std.specs.Prelude.{slice_get}
use Rattle.turn_lock.specs.declared.pass.Pass.{Pass}
use Rattle.turn_lock.specs.steps.Turning.{HasNumber}
use Rattle.turn_lock.specs.Lists.{Begins}
use Rattle.turn_lock.specs.steps.Turns.{HasPart}
use Rattle.turn_lock.specs.Passing.{mine_of, is_based}
use Rattle.turn_lock.proofs.Lists.{got_snoc, got_front, got_last, nothing_got}
use Rattle.turn_lock.proofs.Telling.{back_stays, back_comes, back_first, number_there, closes_with}
use Rattle.turn_lock.proofs.pass.Turn.close.Goals as goal

pub loop-pass-init : goal.loop-pass-init
loop-pass-init g c =
    let e = g.T.Entries.entries in
    let num = g.T.Entries.number in
    let bas = g.T.Entries.basis in
    let law = g.T.Entries.lawful in
    let first = c.in-Some.first in
    let P = Pass g.row.T.Denot g.row.T-Entry.Denot g.row.T-Basis.Denot g.T.Entries in
    let xs = c.pop.new.self.items in
    let v = first.place.me.0 in
    let items : c.args.passes.items ≡ xs ++ first ∷ [] = search rules in
    let here : slice_get c.args.passes.items (length xs) ≡ Some first
    = subst (λ (ys : List P). slice_get ys (length xs) ≡ Some first) (sym items) (got_last xs first) in
    let of = c.requires.passes (length xs) first here in
    let Back : P → Type 0 = λ p. Begins p.place.me.0.seen v.seen × HasPart p.number (mine_of p.place.me.0.parts) v.parts in (
      of.0,
      c.args.self.wide,
      (first.idle.0, first.idle.1, first.idle.3),
      of.1,
      refl,
      (λ k p h. ⊎_elim (λ q. inl q)
          (λ (q : (first ≡ p) × (k ≡ length xs)). inr (subst Back q.0 (back_first e num bas law v first.number (mine_of v.parts) first.idle.2)))
          (got_snoc xs first p k (subst (λ (ys : List P). slice_get ys k ≡ Some p) items h))),
      (λ k p h. subst (λ (ys : List P). slice_get ys k ≡ Some p) (sym items) (got_front xs first p k h)),
    )

pub rejoin-requires-clause-table : goal.rejoin-requires-clause-table
rejoin-requires-clause-table g c =
    let i = c.loop-pass.invariant in
    let pass = c.in-Some-pop.pass in
    let P = Pass g.row.T.Denot g.row.T-Entry.Denot g.row.T-Basis.Denot g.T.Entries in
    let xs = c.pop-in-loop-pass.new.self.items in
    let items : c.loop-pass.passes.items ≡ xs ++ pass ∷ [] = search rules in
    let here : slice_get c.loop-pass.passes.items (length xs) ≡ Some pass
    = subst (λ (ys : List P). slice_get ys (length xs) ≡ Some pass) (sym items) (got_last xs pass) in
    (i.0, (c.requires.passes (length xs) pass (i.6 (length xs) pass here)).0, i.1.0)

pub loop-pass-preserved : goal.loop-pass-preserved
loop-pass-preserved g c =
    let e = g.T.Entries.entries in
    let num = g.T.Entries.number in
    let bas = g.T.Entries.basis in
    let law = g.T.Entries.lawful in
    let i = c.loop-pass.invariant in
    let j = c.rejoin.ensures.joined in
    let pass = c.in-Some-pop.pass in
    let P = Pass g.row.T.Denot g.row.T-Entry.Denot g.row.T-Basis.Denot g.T.Entries in
    let xs = c.pop-in-loop-pass.new.self.items in
    let v = c.loop-pass.seat.me.0 in
    let w = c.rejoin.new.seat.me.0 in
    let items : c.loop-pass.passes.items ≡ xs ++ pass ∷ [] = search rules in
    let Back : P → Type 0 = λ p. Begins p.place.me.0.seen w.seen × HasPart p.number (mine_of p.place.me.0.parts) w.parts in (
      c.rejoin.ensures.table ∙ i.0,
      i.1,
      (c.rejoin.ensures.empty, j.idle, ap is_based j.based ∙ i.2.2),
      j.based ∙ i.3,
      refl,
      (λ k p h. ⊎_elim
          (λ there. ⊎_elim (λ q. inl q)
          (λ (q : (pass ≡ p) × (k ≡ length xs)). inr
          (subst Back q.0 (back_comes e num bas law v w pass.number pass.place.me.0.seen (mine_of pass.place.me.0.parts) j)))
          (got_snoc xs pass p k (subst (λ (ys : List P). slice_get ys k ≡ Some p) items there)))
          (λ back. inr (back_stays e num bas law v w pass.number pass.place.me.0.seen (mine_of pass.place.me.0.parts) j p.number p.place.me.0.seen
          (mine_of p.place.me.0.parts) back))
          (i.5 k p h)),
      (λ k p h. i.6 k p (subst (λ (ys : List P). slice_get ys k ≡ Some p) (sym items) (got_front xs pass p k h))),
    )

pub unlay-requires-clause-all : goal.unlay-requires-clause-all
unlay-requires-clause-all g c n below =
    let e = g.T.Entries.entries in
    let num = g.T.Entries.number in
    let bas = g.T.Entries.basis in
    let law = g.T.Entries.lawful in
    let i = c.loop-pass.invariant in
    let none : c.loop-pass.passes.items ≡ [] = search rules in
    let v = c.loop-pass.seat.me.0 in
    let a = c.requires.all n below in
    let p = a.1 in
    ⊎_elim (λ q. absurd (nothing_got _ a.0 p none q))
    (λ (b : Begins p.place.me.0.seen v.seen × HasPart p.number (mine_of p.place.me.0.parts) v.parts).
    subst (λ k. HasNumber k v.parts) a.3 (number_there e num bas law p.number (mine_of p.place.me.0.parts) v.parts b.1))
    (i.5 a.0 p a.2)

pub returns-clause-passes : goal.returns-clause-passes
returns-clause-passes g c k p h =
    let e = g.T.Entries.entries in
    let num = g.T.Entries.number in
    let bas = g.T.Entries.basis in
    let law = g.T.Entries.lawful in
    let i = c.loop-pass.invariant in
    let none : c.loop-pass.passes.items ≡ [] = search rules in
    let v = c.loop-pass.seat.me.0 in
    ⊎_elim (λ q. absurd (nothing_got _ k p none q))
    (λ (b : Begins p.place.me.0.seen v.seen × HasPart p.number (mine_of p.place.me.0.parts) v.parts).
    closes_with e num bas law v c.unlay.result p.number p.place.me.0.seen (mine_of p.place.me.0.parts) c.unlay.ensures.value.0 b)
    (i.5 k p h)
