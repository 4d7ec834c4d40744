use Rattle.std.proofs.Common.{◌≡◌, ap, arith, get_or}
use Rattle.std.proofs.lemmas.List.Sums.{sum_by_more}
use Rattle.bind_model.specs.declared.event.Event.{Event}
use Rattle.load_run.specs.Counts.{bytes_of}
use Rattle.load_run.proofs.counts.count_bytes.Goals as goal

pub loop-event-preserved : goal.loop-event-preserved
loop-event-preserved c =
    let i = c.loop-event.invariant in
    let events = c.args.events.now in
    let event = c.event-item.result in
    let more = sum_by_more (λ (e : Event). bytes_of e.told) events c.loop-event.event-index event c.loop-event-test.true in
    let here : bytes_of event.told ≡ bytes_of (get_or events c.loop-event.event-index event).told = ap (λ (e : Event). bytes_of e.told) c.event-item.is in
    record {
      sum = omega (arith, i.sum, more, here, c.bytes_of.ensures);
      most = omega (arith, i.most);
    }
