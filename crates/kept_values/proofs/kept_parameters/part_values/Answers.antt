use Rattle.wire_model.specs.Trees.{view}
use Rattle.kept_values.specs.KeptTrees.{part_tree}
use Rattle.kept_values.proofs.KeptLists.{map_grown_read, map_whole}
use Rattle.kept_values.proofs.kept_parameters.part_values.Goals as goal

pub loop-part-preserved : goal.loop-part-preserved
loop-part-preserved c =
    map_grown_read view part_tree c.loop-part.values.items c.args.parts.now c.loop-part.part-index c.in_ok-value.value c.part-item.result
    c.push.new.self.items c.loop-part-test.true c.part-item.is c.in_ok-value.ensures c.in_ok-push.ensures.items c.loop-part.invariant

pub returns : goal.returns
returns c =
    map_whole view part_tree c.loop-part.values.items c.args.parts.now c.loop-part.part-index c.loop-part-test.false c.loop-part.invariant
