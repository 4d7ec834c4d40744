use Rattle.std.proofs.Common.{◌≡◌}
use Rattle.benchmarks.proofs.unread.take_each.Given as goal

abbrev pub invariant-loop-end : goal.invariant-loop-end
invariant-loop-end l = l.core.seqs ≡ l.fn.core.seqs
