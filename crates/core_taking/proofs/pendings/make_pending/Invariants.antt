use Rattle.std.proofs.Common.{◌≡◌, ◌≤◌, length, take, true, vec_capacity}
use Rattle.std.specs.Prelude.{◌||◌}
use Rattle.bind_model.specs.Pendings.{is_out}
use Rattle.bind_model.specs.Replies.{has_pending, pendings_at}
use Rattle.bind_model.specs.declared.endpoint.PendingId.{PendingId}
use Rattle.bind_model.specs.Pendings.{has_place}
use Rattle.core_taking.specs.Founds.{pending_ids}
use Rattle.core_taking.specs.steps.Pending.{halves_from}
use Rattle.core_taking.proofs.pendings.make_pending.Given as goal

-- those so far were made, in order, and there are room and places for the others
abbrev pub invariant-loop-entry : goal.invariant-loop-entry
invariant-loop-entry l = record {
  made : l.out.items ≡ halves_from l.end (take l.entry-index l.entries);
  room : length (pending_ids l.entries) ≤ vec_capacity l.out;
  keeps : (p : PendingId) → has_place l.initial.pendings p ≡ true → has_place l.pendings p ≡ true;
  outs : (p : PendingId) → is_out l.pendings p
      ≡ (has_pending (pendings_at l.end (pending_ids (take l.entry-index l.entries))) p || is_out l.initial.pendings p);
}
