use Rattle.std.proofs.Common.{◌≡◌, ◌++◌}
use Rattle.std.specs.Prelude.{reverse, vec_len}
use Rattle.event_notes.proofs.notes.push_turned.Given as goal

-- with those that are left, the last first, they are all
abbrev pub invariant-loop-note : goal.invariant-loop-note
invariant-loop-note l = record {
  all : l.notes.items ++ reverse l.left.items ≡ l.fn.notes.items ++ reverse l.fn.own.items;
}

abbrev pub decreases-loop-note : goal.decreases-loop-note
decreases-loop-note l = vec_len l.left
