use Rattle.wire_model.specs.Trees.{view}
use Rattle.kept_values.specs.KeptTrees.{part_tree}
use Rattle.kept_values.proofs.KeptLists.{map_grown_read, map_whole}
use Rattle.kept_values.proofs.kept_parameters.hold_parts.Goals as goal

pub loop-value-preserved : goal.loop-value-preserved
loop-value-preserved c =
    map_grown_read part_tree view c.loop-value.parts.items c.args.values.now c.loop-value.value-index c.in_ok-part.part c.value-item.result
    c.push.new.self.items c.loop-value-test.true c.value-item.is c.in_ok-part.ensures c.in_ok-push.ensures.items c.loop-value.invariant

pub returns : goal.returns
returns c =
    map_whole part_tree view c.loop-value.parts.items c.args.values.now c.loop-value.value-index c.loop-value-test.false c.loop-value.invariant
