use Rattle.std.proofs.Common.{◌≡◌, take, true}
use Rattle.std.specs.Prelude.{◌||◌}
use Rattle.bind_model.specs.Pendings.{has_place, is_out}
use Rattle.bind_model.specs.Replies.{has_pending, pendings_at}
use Rattle.bind_model.specs.declared.endpoint.PendingId.{PendingId}
use Rattle.core_taking.specs.Founds.{pending_ids}
use Rattle.event_takes.proofs.receiving.add_pending.Given as goal

-- those so far are out, and there are places for the others
abbrev pub invariant-loop-entry : goal.invariant-loop-entry
invariant-loop-entry l = record {
  keeps : (p : PendingId) → has_place l.initial.pendings p ≡ true → has_place l.pendings p ≡ true;
  outs : (p : PendingId) → is_out l.pendings p
      ≡ (has_pending (pendings_at l.end (pending_ids (take l.entry-index l.entries))) p || is_out l.initial.pendings p);
}
