use Rattle.wire_model.specs.Trees.{view}
use Rattle.kept_values.specs.KeptTrees.{byte_tree}
use Rattle.kept_values.proofs.KeptLists.{map_grown_read, map_whole}
use Rattle.kept_values.proofs.kept_parameters.bytes_in.Goals as goal

pub loop-item-preserved : goal.loop-item-preserved
loop-item-preserved c =
    map_grown_read byte_tree view c.loop-item.bytes.items c.args.items.now c.loop-item.item-index c.in-Some.byte c.item-item.result
    c.push.new.self.items c.loop-item-test.true c.item-item.is c.in-Some.ensures c.in_ok-push.ensures.items c.loop-item.invariant

pub returns : goal.returns
returns c =
    map_whole byte_tree view c.loop-item.bytes.items c.args.items.now c.loop-item.item-index c.loop-item-test.false c.loop-item.invariant
