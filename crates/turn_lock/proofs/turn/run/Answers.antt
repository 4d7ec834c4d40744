use Rattle.std.proofs.Common.{◌≡◌, ◌<◌, ◌∷◌, [], eqb, not, refl, ap, ◌∙◌, subst}
use Rattle.turn_lock.specs.Given.{ReturnsGiven}
use Rattle.atomic_table.specs.Table.{rest}
use Rattle.turn_lock.proofs.turn.run.Goals as goal

pub returns-clause-value : goal.returns-clause-value
returns-clause-value g c =
    let t = c.requires.value in
    let none_left : rest c.args.seat.now.me.1 ≡ [] = ap rest t.1 in
    let x = c.slot_mut-value.result.now in
    let z = c.op-result.new.arg2 in
    let gave : ReturnsGiven g.F.FnOnce c.args.op c.args.given x c.op-result.result z
    = record { shown = _; shows = refl; left = _; met = c.op-result.ensures; leaves = refl } in (
      x,
      c.slot_mut-value.ensures.value ∙ ap (λ l. (0, x) ∷ l) none_left,
      (
        z,
        ap (λ l. (0, z) ∷ l) none_left,
        (
          gave,
          (λ i. not (eqb (c.count-before.ensures.count i) (c.count-after.ensures.count i))),
          subst (λ n. n < 18446744073709551616) c.count-after.ensures.count c.count-after.type_inv,
          c.count-after.ensures.lawful,
        ),
      ),
    )
