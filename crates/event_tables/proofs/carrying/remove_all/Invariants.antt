use Rattle.std.proofs.Common.{take}
use Rattle.core_state.specs.steps.Spends.{SpendsAll}
use Rattle.event_tables.proofs.carrying.remove_all.Given as goal

-- those so far are out no longer
abbrev pub invariant-loop-pending : goal.invariant-loop-pending
invariant-loop-pending l = SpendsAll (take l.pending-index l.pendings) l.initial.table l.table
