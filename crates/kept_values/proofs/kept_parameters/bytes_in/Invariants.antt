use Rattle.std.proofs.Common.{◌≡◌, map, take}
use Rattle.wire_model.specs.Trees.{view}
use Rattle.kept_values.specs.KeptTrees.{byte_tree}
use Rattle.kept_values.proofs.kept_parameters.bytes_in.Given as goal

-- so far each element is the byte that was noted
abbrev pub invariant-loop-item : goal.invariant-loop-item
invariant-loop-item l = map byte_tree l.bytes.items ≡ map view (take l.item-index l.items)
