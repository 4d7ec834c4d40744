use Rattle.std.proofs.Common.{◌≡◌, ◌++◌, drop}
use Rattle.bind_model.specs.Replies.{ids_of}
use Rattle.core_sending.proofs.writing.ids_of.Given as goal

-- the ids so far, and those of what is left
abbrev pub invariant-loop-pending : goal.invariant-loop-pending
invariant-loop-pending l = l.ids.items ++ ids_of (drop l.pending-index l.pendings) ≡ ids_of l.pendings
