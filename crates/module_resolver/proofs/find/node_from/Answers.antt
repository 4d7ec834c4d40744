use Rattle.std.proofs.Common.{sym, ◌∙◌, ap}
use Rattle.name_tree.specs.Trees.{child}
use Rattle.name_tree.proofs.Owners.{walk_within}
use Rattle.module_resolver.specs.Seats.{node_of}
use Rattle.module_resolver.proofs.find.node_from.Goals as goal

pub returns-in-Some : goal.returns-in-Some
returns-in-Some c =
    let index = c.args.index.now in
    c.below.ensures
    ∙ sym (ap (node_of index 0) c.in-Some.ensures ∙ walk_within (child index.tree) c.args.around.now c.in-Some.rest.now c.args.node c.requires)
