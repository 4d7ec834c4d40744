use Rattle.std.proofs.Common.{rules, ◌<◌, length, ◌∙◌, ap}
use Rattle.module_resolver.specs.Seats.{node_of}
use Rattle.module_resolver.proofs.Held.{node_at}
use Rattle.module_resolver.proofs.find.node_in.Goals as goal

pub bounds-nodes-0 : goal.bounds-nodes-0
bounds-nodes-0 c =
    let some : 0 < length c.args.fronts.now = search rules in
    (node_at c.args.index.now c.args.fronts.now c.args.nodes.now 0 c.requires some).0

pub node_from-requires : goal.node_from-requires
node_from-requires c =
    let some : 0 < length c.args.fronts.now = search rules in
    ap (node_of c.args.index.now 0) c.at.ensures ∙ (node_at c.args.index.now c.args.fronts.now c.args.nodes.now 0 c.requires some).1
