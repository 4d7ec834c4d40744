use Rattle.std.proofs.Common.{◌≡◌, ◌++◌}
use Rattle.breaking_changes.proofs.rising.numbers_in.Given as goal

-- what is made and what is left are all
abbrev pub invariant-loop-number : goal.invariant-loop-number
invariant-loop-number l = record {
  can_next : (goal.iterator-loop-number).can_next l.number-iterator;
  is_finite : (goal.iterator-loop-number).is_finite l.number-iterator;
  made : l.made.items ++ l.number-iterator ≡ l.found.keys;
}
