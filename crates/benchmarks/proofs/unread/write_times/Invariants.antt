use Rattle.std.proofs.Common.{◌≡◌}
use Rattle.benchmarks.proofs.unread.write_times.Given as goal

abbrev pub invariant-loop : goal.invariant-loop
invariant-loop l = l.core.seqs ≡ l.fn.core.seqs
