use Rattle.std.proofs.Common.{◌≡◌, drop, map}
use Rattle.wire_model.specs.Indexes.{handles_in}
use Rattle.wire_model.specs.Trees.{view, trees}
use Rattle.core_taking.specs.steps.Marks.{marked}
use Rattle.core_taking.proofs.indexes.+marks.Given as goal

-- the rest of the values marks what all of them do
abbrev pub invariant-mark_all-loop-value : goal.invariant-mark_all-loop-value
invariant-mark_all-loop-value l = marked (handles_in (trees (map view (drop l.value-index l.values)))) l.marks
    ≡ marked (handles_in (trees (map view l.values))) l.initial.marks
