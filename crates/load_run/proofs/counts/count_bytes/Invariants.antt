use Rattle.std.proofs.Common.{◌≡◌, ◌≤◌, ◌*◌, ◌^◌, take}
use Rattle.std.specs.List.{sum_by}
use Rattle.bind_model.specs.declared.event.Event.{Event}
use Rattle.load_run.specs.Counts.{bytes_of}
use Rattle.load_run.proofs.counts.count_bytes.Given as goal

-- the sum so far, in which no event has more than 64 bits
abbrev pub invariant-loop-event : goal.invariant-loop-event
invariant-loop-event l = record {
  sum : l.bytes ≡ sum_by (λ (event : Event). bytes_of event.told) (take l.event-index l.events);
  most : l.bytes ≤ l.event-index * (2 ^ 64);
}
