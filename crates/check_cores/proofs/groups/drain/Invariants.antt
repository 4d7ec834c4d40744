use Rattle.std.proofs.Common.{◌≡◌}
use Rattle.check_cores.proofs.groups.drain.Given as goal

-- both cores have the schema and their four sequences
abbrev pub invariant-loop : goal.invariant-loop
invariant-loop l = (l.core.schema ≡ l.schema) × (l.core.seqs ≡ 4) × (l.alone.schema ≡ l.schema) × (l.alone.seqs ≡ 4)
