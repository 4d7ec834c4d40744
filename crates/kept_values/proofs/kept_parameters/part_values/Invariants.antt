use Rattle.std.proofs.Common.{◌≡◌, map, take}
use Rattle.wire_model.specs.Trees.{view}
use Rattle.kept_values.specs.KeptTrees.{part_tree}
use Rattle.kept_values.proofs.kept_parameters.part_values.Given as goal

-- the values so far are those that the parts are kept of
abbrev pub invariant-loop-part : goal.invariant-loop-part
invariant-loop-part l = map view l.values.items ≡ map part_tree (take l.part-index l.parts)
