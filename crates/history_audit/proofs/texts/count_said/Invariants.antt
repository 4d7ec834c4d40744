use Rattle.std.proofs.Common.{◌≡◌, ◌≤◌, length}
use Rattle.history_audit.proofs.Counting.{SaidSoFar}
use Rattle.history_audit.proofs.texts.count_said.Given as goal

-- so far the text says the events
abbrev pub invariant-loop-event : goal.invariant-loop-event
invariant-loop-event l = record {
  number : l.number ≡ l.event-index;
  within : l.at ≤ length l.bytes;
  so : SaidSoFar l.schema l.events l.bytes l.event-index l.at;
}
