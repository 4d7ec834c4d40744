use Rattle.std.proofs.Common.{◌≡◌, sym, ap, ◌∙◌, subst, true}
use Rattle.turn_lock.specs.Given.{ReturnsGiven}
use Rattle.turn_lock.specs.steps.Turning.{grown, releasing}
use Rattle.turn_lock.specs.Passing.{mine_of, is_based}
use Rattle.turn_lock.specs.steps.Turns.{Settles}
use Rattle.turn_lock.proofs.Telling.{took_it, suits_of, settles_of, ran_of, left_with, one_value}
use Rattle.turn_lock.proofs.pass.Turn.with.Goals as goal

pub settle-requires-clause-value : goal.settle-requires-clause-value
settle-requires-clause-value g c =
    let e = g.T.Entries.entries in
    let num = g.T.Entries.number in
    let bas = g.T.Entries.basis in
    let law = g.T.Entries.lawful in
    let m = c.args.pass.now.place.me in
    let r = c.run-result.ensures.value in
    let y = r.0 in
    let z = r.2.0 in
    let based : is_based m.0.basis ≡ true = c.args.pass.now.idle.3 in
    let took = took_it e num bas law m c.take.new.seat.me y r.1 c.take.ensures.took in
    let has = c.args.pass.now.idle.2 in
    let n = c.args.pass.now.number in
    let mine = mine_of m.0.parts in
    let suits = suits_of e num bas law m.0 n mine y has based took.1 took.2 in
    let adds = c.requires.adds y c.run-result.result.0 z suits r.2.2.0 in (
      z,
      r.2.1,
      subst (λ v. Settles e num bas law v z c.run-result.result.1) (sym (c.run-result.ensures.table.1 ∙ took.0))
          (settles_of e num bas law m.0 n mine y z c.run-result.result.1 has suits adds r.2.2.1 r.2.2.2 r.2.2.3),
    )

pub returns-clause-ran : goal.returns-clause-ran
returns-clause-ran g c =
    let e = g.T.Entries.entries in
    let num = g.T.Entries.number in
    let bas = g.T.Entries.basis in
    let law = g.T.Entries.lawful in
    let m = c.args.pass.now.place.me in
    let r = c.run-result.ensures.value in
    let y = r.0 in
    let z = r.2.0 in
    let based : is_based m.0.basis ≡ true = c.args.pass.now.idle.3 in
    let took = took_it e num bas law m c.take.new.seat.me y r.1 c.take.ensures.took in
    let has = c.args.pass.now.idle.2 in
    let n = c.args.pass.now.number in
    let mine = mine_of m.0.parts in
    let suits = suits_of e num bas law m.0 n mine y has based took.1 took.2 in
    let adds = c.requires.adds y c.run-result.result.0 z suits r.2.2.0 in
    let s = c.settle.ensures.value in
    let s_is : s.0 ≡ z = one_value e num bas law c.run-result.new.seat.me.1 s.0 z s.1 r.2.1 in
    let w = c.settle.new.seat.me.0 in
    let v_is = c.run-result.ensures.table.1 ∙ took.0 in
    let w_is : w ≡ left_with e num bas law m.0 (e y) (e z) = ap (λ k. k.0) s.2 ∙ (λ i. releasing e num bas law (grown e num bas law (v_is i) (e (s_is i)))) in
    ran_of e num bas law (ReturnsGiven g.F.FnOnce c.args.op c.args.given) m.0 w n mine y z c.run-result.result.0 has suits adds r.2.2.3 r.2.2.0 w_is
