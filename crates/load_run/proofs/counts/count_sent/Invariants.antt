use Rattle.std.proofs.Common.{◌≡◌, ◌≤◌, take}
use Rattle.std.specs.List.{count_by}
use Rattle.bind_model.specs.declared.event.Event.{Event}
use Rattle.load_run.specs.Counts.{is_sent}
use Rattle.load_run.proofs.counts.count_sent.Given as goal

-- the count so far, which is no more than the events so far
abbrev pub invariant-loop-event : goal.invariant-loop-event
invariant-loop-event l = record {
  sum : l.count ≡ count_by (λ (event : Event). is_sent event.told) (take l.event-index l.events);
  most : l.count ≤ l.event-index;
}
