use Rattle.std.proofs.Common.{◌≡◌, ◌≤◌, ℕ, Bool, true, false, ap, arith, get_or}
use Rattle.std.specs.Prelude.{if◌then◌else◌}
use Rattle.std.proofs.lemmas.List.Sums.{sum_by_more}
use Rattle.bind_model.specs.declared.event.Event.{Event}
use Rattle.load_run.specs.Counts.{is_got}
use Rattle.load_run.proofs.counts.count_got.Goals as goal

one_most : (b : Bool) → (if b then 1 else 0) ≤ 1
one_most true = omega arith
one_most false = omega arith

pub loop-event-preserved : goal.loop-event-preserved
loop-event-preserved c =
    let i = c.loop-event.invariant in
    let events = c.args.events.now in
    let event = c.event-item.result in
    let one : Event → ℕ = λ e. if is_got e.told then 1 else 0 in
    let more = sum_by_more one events c.loop-event.event-index event c.loop-event-test.true in
    let here : one event ≡ one (get_or events c.loop-event.event-index event) = ap one c.event-item.is in
    record {
      sum = omega (arith, i.sum, more, here, c.got_in-count.ensures);
      most = omega (arith, i.most, one_most (is_got event.told), c.got_in-count.ensures);
    }
