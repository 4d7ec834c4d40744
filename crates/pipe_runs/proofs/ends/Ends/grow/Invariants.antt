use Rattle.std.proofs.Common.{◌≡◌, ◌-◌, ◌+◌, ℕ, vec_len}
use Rattle.handle_table.specs.Numbered.{listed}
use Rattle.pipe_runs.proofs.ends.Ends.grow.Given as goal

-- lists without items were added
abbrev pub invariant-loop-alloc : goal.invariant-loop-alloc
invariant-loop-alloc l = (s : ℕ) → listed l.self-inside.sequences.items s ≡ listed l.initial.self-inside.sequences.items s

abbrev pub decreases-loop-alloc : goal.decreases-loop-alloc
decreases-loop-alloc l = (l.seq + 1) - vec_len l.self-inside.sequences
