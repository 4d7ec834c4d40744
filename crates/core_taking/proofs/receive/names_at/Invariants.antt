use Rattle.std.proofs.Common.{◌≡◌, take}
use Rattle.bind_model.specs.Replies.{pendings_at}
use Rattle.core_taking.specs.Founds.{pending_ids}
use Rattle.core_taking.proofs.receive.names_at.Given as goal

-- the names of those so far
abbrev pub invariant-loop-entry : goal.invariant-loop-entry
invariant-loop-entry l = l.names.items ≡ pendings_at l.end (pending_ids (take l.entry-index l.entries))
