use Rattle.std.proofs.Common.{vec_len}
use Rattle.core_sending.proofs.Spending.{Remain}
use Rattle.core_sending.proofs.carried.spend_all.Given as goal

-- those that are left are spent too
abbrev pub invariant-loop-pending : goal.invariant-loop-pending
invariant-loop-pending l = Remain l.initial.left.items l.left.items l.initial.table l.table

abbrev pub decreases-loop-pending : goal.decreases-loop-pending
decreases-loop-pending l = vec_len l.left
