use Rattle.std.proofs.Common.{◌≡◌, Some, ap, ◌∙◌, sym, subst}
use mathlib.Core.Option.{some-injective}
use Rattle.turn_lock.specs.steps.Turning.{Knows}
use Rattle.turn_lock.proofs.Seats.{closes}
use Rattle.turn_lock.proofs.Telling.{base_of}
use Rattle.turn_lock.proofs.turn.unlay.Goals as goal

pub returns : goal.returns
returns g c =
    let e = g.T.Entries.entries in
    let num = g.T.Entries.number in
    let bas = g.T.Entries.basis in
    let law = g.T.Entries.lawful in
    let v = c.args.seat.me.0 in
    let b = base_of e num bas law v.basis c.requires.idle.2 in
    let k = closes e num bas law _ _ v _ _ c.close_with-closed.ensures.values.2 c.requires.idle.1 c.requires.all b.0 b.1 in
    let same : k.0 ≡ c.take-value.result = some-injective _ _ (sym k.1 ∙ c.take-value.ensures.value) in record {
      value = (subst (λ (x : g.row.T.Denot). Knows e num bas law v (e x)) same k.2, b.1 ∙ (ap Some (sym k.3 ∙ ap bas same)));
    }
