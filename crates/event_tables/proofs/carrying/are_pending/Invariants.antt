use Rattle.std.proofs.Common.{◌≡◌, drop}
use Rattle.std.specs.List.{list_all}
use Rattle.bind_model.specs.Pendings.{is_out}
use Rattle.bind_model.specs.declared.endpoint.PendingId.{PendingId}
use Rattle.event_tables.proofs.carrying.are_pending.Given as goal

-- what is left decides
abbrev pub invariant-loop-pending : goal.invariant-loop-pending
invariant-loop-pending l = list_all (λ (p : PendingId). is_out l.table p) (drop l.pending-index l.pendings)
    ≡ list_all (λ (p : PendingId). is_out l.table p) l.pendings
