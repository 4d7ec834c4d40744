use Rattle.wire_model.specs.Trees.{view}
use Rattle.kept_values.specs.KeptTrees.{byte_tree}
use Rattle.kept_values.proofs.KeptLists.{map_grown, map_whole}
use Rattle.kept_values.proofs.kept_parameters.byte_values.Goals as goal

pub loop-byte-preserved : goal.loop-byte-preserved
loop-byte-preserved c =
    map_grown view byte_tree c.loop-byte.values.items c.args.bytes.now c.loop-byte.byte-index c.byte_value.result 0 c.push.new.self.items
    c.loop-byte-test.true c.byte_value.ensures c.in_ok-push.ensures.items c.loop-byte.invariant

pub returns : goal.returns
returns c =
    map_whole view byte_tree c.loop-byte.values.items c.args.bytes.now c.loop-byte.byte-index c.loop-byte-test.false c.loop-byte.invariant
