use Rattle.std.proofs.Common.{◌≡◌}
use Rattle.check_cores.proofs.groups.do_turns.Given as goal

-- both cores have the schema and their four sequences
abbrev pub invariant-loop-turn : goal.invariant-loop-turn
invariant-loop-turn l = (l.core.schema ≡ l.schema) × (l.core.seqs ≡ 4) × (l.alone.schema ≡ l.schema) × (l.alone.seqs ≡ 4)
