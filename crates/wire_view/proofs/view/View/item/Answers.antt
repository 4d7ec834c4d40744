use Rattle.std.proofs.Common.{◌∙◌}
use Rattle.wire_model.specs.Trees.{Items, more, none}
use Rattle.wire_view.specs.Views.{tree_of}
use Rattle.wire_view.proofs.ObjectFacts.{array_items, struct_items, map_items, union_items}
use Rattle.wire_view.proofs.view.View.item.Goals as goal

pub returns-in-Array-clause-value : goal.returns-in-Array-clause-value
returns-in-Array-clause-value c =
    let shape = c.in-Array.ensures in
    c.child.ensures.value ∙ array_items (tree_of c.args.self.now) shape.0 c.args.j shape.1

pub returns-in-Struct-clause-value : goal.returns-in-Struct-clause-value
returns-in-Struct-clause-value c =
    let shape = c.in-Struct.ensures in
    struct_items (tree_of c.args.self.now) shape.0 c.args.j shape.1

pub returns-in-Map-clause-value : goal.returns-in-Map-clause-value
returns-in-Map-clause-value c =
    let shape = c.in-Map.ensures in
    map_items (tree_of c.args.self.now) (more (Items shape.0) (more (Items shape.1) none)) c.args.j shape.2

pub returns-in-Union-clause-value : goal.returns-in-Union-clause-value
returns-in-Union-clause-value c =
    let shape = c.in-Union.ensures in
    union_items (tree_of c.args.self.now) shape.0 c.args.j shape.1
