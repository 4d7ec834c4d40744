use Rattle.std.proofs.Common.{◌≡◌, map, take}
use Rattle.wire_model.specs.Trees.{view}
use Rattle.kept_values.specs.KeptTrees.{byte_tree}
use Rattle.kept_values.proofs.kept_parameters.byte_values.Given as goal

-- the values so far are the bytes
abbrev pub invariant-loop-byte : goal.invariant-loop-byte
invariant-loop-byte l = map view l.values.items ≡ map byte_tree (take l.byte-index l.bytes)
