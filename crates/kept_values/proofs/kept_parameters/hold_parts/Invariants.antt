use Rattle.std.proofs.Common.{◌≡◌, map, take}
use Rattle.wire_model.specs.Trees.{view}
use Rattle.kept_values.specs.KeptTrees.{part_tree}
use Rattle.kept_values.proofs.kept_parameters.hold_parts.Given as goal

-- the parts so far are kept of the values
abbrev pub invariant-loop-value : goal.invariant-loop-value
invariant-loop-value l = map part_tree l.parts.items ≡ map view (take l.value-index l.values)
