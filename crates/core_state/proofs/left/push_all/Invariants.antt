use Rattle.std.proofs.Common.{◌≡◌, ◌++◌}
use Rattle.core_state.specs.Numbering.{all_made, open_in}
use Rattle.core_state.proofs.left.push_all.Given as goal

-- what is open of the sequences below this one was added
abbrev pub invariant-loop-seq : goal.invariant-loop-seq
invariant-loop-seq l = l.left.items ≡ l.fn.left.items ++ open_in l.places (all_made l.sort l.places l.seq)
