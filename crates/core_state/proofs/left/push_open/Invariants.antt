use Rattle.std.proofs.Common.{◌≡◌, ◌≤◌, ◌-◌, ◌++◌}
use Rattle.core_state.specs.Numbering.{count_by}
use Rattle.core_state.proofs.Leaving.{open_below}
use Rattle.core_state.proofs.left.push_open.Given as goal

-- what is open below the number was added
abbrev pub invariant-loop-place : goal.invariant-loop-place
invariant-loop-place l = record {
  most : l.serial ≤ count_by l.sort l.places l.seq;
  added : l.left.items ≡ l.fn.left.items ++ open_below l.sort l.places l.seq l.serial;
}

abbrev pub decreases-loop-place : goal.decreases-loop-place
decreases-loop-place l = count_by l.sort l.places l.seq - l.serial
