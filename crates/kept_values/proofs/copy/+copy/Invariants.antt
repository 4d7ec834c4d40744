use Rattle.std.proofs.Common.{◌≡◌, map, take}
use Rattle.wire_model.specs.Trees.{view}
use Rattle.kept_values.proofs.copy.+copy.Given as goal

-- so far the copies have the trees of the values
abbrev pub invariant-copy_values-loop-value : goal.invariant-copy_values-loop-value
invariant-copy_values-loop-value l = map view l.copies.items ≡ map view (take l.value-index l.values)
