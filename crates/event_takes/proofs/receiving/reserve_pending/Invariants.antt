use Rattle.std.proofs.Common.{◌≡◌, take}
use Rattle.bind_model.specs.Pendings.{is_out}
use Rattle.bind_model.specs.declared.endpoint.PendingId.{PendingId}
use Rattle.core_taking.specs.steps.Pending.{HavePlaces}
use Rattle.event_takes.proofs.receiving.reserve_pending.Given as goal

-- there are places for those so far, and the same are out
abbrev pub invariant-loop-entry : goal.invariant-loop-entry
invariant-loop-entry l = record {
  same : (p : PendingId) → is_out l.pendings p ≡ is_out l.initial.pendings p;
  places : HavePlaces l.pendings l.end (take l.entry-index l.entries);
}
