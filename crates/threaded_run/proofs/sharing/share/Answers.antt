use Rattle.std.proofs.Common.{rules, ◌≡◌, ◌++◌, ◌∷◌, length, Some, sym, ap, ◌∙◌, subst}
use Rattle.std.specs.Prelude.{slice_get}
use Rattle.threaded_run.specs.steps.Passes.{Shown}
use Rattle.threaded_run.proofs.Places.{some_is, got_low, got_middle, got_high, all_three}
use Rattle.threaded_run.proofs.Showing.{shown_from, shown_twice}
use Rattle.threaded_run.proofs.sharing.share.Goals as goal

pub tell-requires-clause-one : goal.tell-requires-clause-one
tell-requires-clause-one c =
    let low = c.split_at_mut-low.result.0.now in
    let one = c.in-Some.one.now in
    let high = c.in-Some.high.now in
    let whole : c.args.passes.now ≡ low ++ one ∷ high = search rules in
    c.requires.passes (length low) one (subst (λ ys. slice_get ys (length low) ≡ Some one) (sym whole) (got_middle low high one))

pub tell-requires-clause-others : goal.tell-requires-clause-others
tell-requires-clause-others c k p got =
    let low = c.split_at_mut-low.result.0.now in
    let one = c.in-Some.one.now in
    let high = c.in-Some.high.now in
    let whole : c.args.passes.now ≡ low ++ one ∷ high = search rules in
    c.requires.passes k p (subst (λ ys. slice_get ys k ≡ Some p) (sym whole) (got_low low (one ∷ high) k p got))

pub tell-requires-2-clause-others : goal.tell-requires-2-clause-others
tell-requires-2-clause-others c k p got =
    let low = c.split_at_mut-low.result.0.now in
    let one = c.in-Some.one.now in
    let high = c.in-Some.high.now in
    let whole : c.args.passes.now ≡ low ++ one ∷ high = search rules in
    let h = got_high low high one k p got in
    c.requires.passes h.0 p (subst (λ ys. slice_get ys h.0 ≡ Some p) (sym whole) h.1)

pub returns-clause-each : goal.returns-clause-each
returns-clause-each c k p first at_s got =
    let hub = c.args.hub.now.turn.board.shared in
    let T = hub.table_id in
    let S = hub.key.0.value.core.schema in
    let N = hub.key.0.value.core.seqs in
    let low = c.split_at_mut-low.result.0.now in
    let one = c.in-Some.one.now in
    let high = c.in-Some.high.now in
    let one1 = c.tell.new.one in
    let one2 = c.tell-2.new.one in
    let from = first.place.me.0.seen in
    let whole : c.args.passes.now ≡ low ++ one ∷ high = search rules in
    let s_is : length low ≡ c.args.s = search rules in
    let is : one ≡ first = some_is one first
    (sym (subst (λ ys. slice_get ys (length low) ≡ Some one) (sym whole) (got_middle low high one))
    ∙ (ap (λ n. slice_get c.args.passes.now n) s_is ∙ at_s)) in
    let seen_is = ap (λ y. y.place.me.0.seen) is in
    all_three low c.tell.new.others high c.tell-2.new.others one one2 (λ p q. Shown T S N p.number p.place.me.0 from q.number q.place.table_id q.place.me.0)
    c.tell.ensures.len
    (subst (λ f. Shown T S N one.number one.place.me.0 f one2.number one2.place.table_id one2.place.me.0) seen_is
    (shown_twice T one1.place.table_id one2.place.table_id S N one.number one1.number one2.number one.place.me.0 one1.place.me.0 one2.place.me.0
    one.place.me.0.seen one1.place.me.0.seen c.tell.ensures.one c.tell-2.ensures.one))
    (λ k p h. let t = c.tell.ensures.others k p h in
    (t.0, t.1, subst (λ f. Shown T S N p.number p.place.me.0 f t.0.number t.0.place.table_id t.0.place.me.0) seen_is t.2))
    (λ k p h. let t = c.tell-2.ensures.others k p h in (
      t.0,
      t.1,
      subst (λ f. Shown T S N p.number p.place.me.0 f t.0.number t.0.place.table_id t.0.place.me.0) seen_is
          (shown_from T t.0.place.table_id S N p.number t.0.number p.place.me.0 t.0.place.me.0 one.place.me.0.seen one1.place.me.0.seen
          c.tell.ensures.one.later t.2),
    ))
    k p (subst (λ ys. slice_get ys k ≡ Some p) whole got)
