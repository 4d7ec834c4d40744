use Rattle.std.proofs.Common.{rules, ◌≡◌, ◌≢◌, ◌<◌, length, set, Some, true, false, eqb, sym, ◌∙◌, subst, arith, get_or, ⊎_elim}
use Rattle.std.specs.Prelude.{slice_get}
use Rattle.std.proofs.lemmas.Option.{get_or_from_slice_get, slice_get_within}
use Rattle.std.proofs.lemmas.Bool.Decides.{eqb_tells}
use Rattle.bind_hub.specs.Passes.{IsPassOf}
use Rattle.threaded_run.specs.steps.Passes.{Shown}
use Rattle.threaded_run.proofs.Showing.{shown_other, shown_one}
use Rattle.threaded_run.proofs.Places.{got_set_here, got_set_else, there_at}
use Rattle.threaded_run.proofs.sharing.tell.Goals as goal

pub meet-requires-clause-two : goal.meet-requires-clause-two
meet-requires-clause-two c =
    let i = c.loop-other.invariant in
    let hub = c.args.hub.now.turn.board.shared in
    let at = c.loop-other.other-index in
    let items = c.loop-other.other-items in
    let below : at < length c.args.others.now = let h = c.loop-other-test.true in let l = i.1 in omega arith in
    let t = there_at c.args.others.now at below in
    let here = i.3 at t.0 (omega arith) t.1 in
    subst (λ p. IsPassOf hub.table_id hub.key.0.value.core.schema hub.key.0.value.core.seqs p.number p.place.table_id p.place.me.0)
    (sym (get_or_from_slice_get items at t.0 c.other-item.result here)) (c.requires.others at t.0 t.1)

pub loop-other-preserved : goal.loop-other-preserved
loop-other-preserved c =
    let i = c.loop-other.invariant in
    let hub = c.args.hub.now.turn.board.shared in
    let T = hub.table_id in
    let S = hub.key.0.value.core.schema in
    let N = hub.key.0.value.core.seqs in
    let at = c.loop-other.other-index in
    let items = c.loop-other.other-items in
    let below : at < length items = let h = c.loop-other-test.true in let l = i.1 in omega arith in
    let one = c.args.one.now in
    let one1 = c.loop-other.one in
    let one2 = c.meet.new.one in
    let other = get_or items at c.other-item.result in
    let other2 = c.meet.new.two in
    let m1 = c.meet.ensures.one in
    let m2 = c.meet.ensures.two in (
      shown_one T one2.place.table_id S N one.number one1.number one2.number one.place.me.0 one1.place.me.0 one2.place.me.0 other.place.me.0
          one.place.me.0.seen one1.place.table_id i.0 m1.0 m1.1 m1.2,
      search rules,
      (λ k p less got. ⊎_elim
          (λ (q : (eqb k at ≡ true) × (k ≡ at)).
          let was : slice_get items at ≡ Some p = subst (λ n. slice_get items n ≡ Some p) q.1 (i.3 k p (omega (arith, q.1)) got) in
          let is : other ≡ p = get_or_from_slice_get items at p c.other-item.result was in (
            other2,
            subst (λ n. slice_get (set items at other2) n ≡ Some other2) (sym q.1) (got_set_here items at other2 below),
            subst (λ y. Shown T S N y.number y.place.me.0 one.place.me.0.seen other2.number other2.place.table_id other2.place.me.0) is
                (shown_other T other2.place.table_id S N other.number other2.number other.place.me.0 other2.place.me.0 one1.place.me.0
                one.place.me.0.seen i.0.also m2.0 m2.1 m2.2),
          ))
          (λ (q : (eqb k at ≡ false) × (k ≢ at)).
          let d = i.2 k p (let n = q.1 in omega (arith, less)) got in
          (d.0, got_set_else items at k other2 q.1 ∙ d.1, d.2))
          (eqb_tells k at)),
      (λ k p least got. got_set_else items at k other2 (λ e. absurd (omega (arith, least, e))) ∙ i.3 k p (omega (arith, least)) got),
    )

pub returns-clause-others : goal.returns-clause-others
returns-clause-others c k p got =
    let i = c.loop-other.invariant in
    let over = c.loop-other-test.false in
    let len = i.1 in
    let w = slice_get_within c.args.others.now k p got in
    i.2 k p (search rules) got
