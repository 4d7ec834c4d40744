use Rattle.std.proofs.Common.{◌≡◌, ◌++◌, drop}
use Rattle.core_taking.specs.steps.Marks.{with_mark, without_mark}
use Rattle.core_taking.proofs.indexes.part.Given as goal

-- what is behind is parted, and the rest is still to be
abbrev pub invariant-loop-at : goal.invariant-loop-at
invariant-loop-at l =
    (l.named.items ++ with_mark (drop l.at l.marks) (drop l.at l.things) ≡ with_mark l.marks l.things)
    × (l.left.items ++ without_mark (drop l.at l.marks) (drop l.at l.things) ≡ without_mark l.marks l.things)
