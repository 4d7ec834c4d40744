use Rattle.std.proofs.Common.{[], ◌∙◌, ap}
use Rattle.name_tree.specs.Walks.{walk}
use Rattle.name_tree.specs.Trees.{child}
use Rattle.module_resolver.proofs.Held.{node_there, node_kept, measured, noted_behind}
use Rattle.module_resolver.proofs.Owned.{on_ok_then}
use Rattle.module_resolver.proofs.index.note.Goals as goal

pub note-requires-clause-there : goal.note-requires-clause-there
note-requires-clause-there c =
    let made = c.in_ok-made.ensures in
    node_there c.enter_kept.new.index made.entered.sound 0 c.args.name.now c.in_ok-made.made.node made.is.is

pub note-requires-clause-measured : goal.note-requires-clause-measured
note-requires-clause-measured c =
    measured c.enter_kept.new.index c.in_ok-made.ensures.entered.sound c.args.name.now c.in_ok-made.made c.in_ok-made.ensures.is

pub returns-clause-nodes : goal.returns-clause-nodes
returns-clause-nodes c =
    on_ok_then c.note.result
    (λ at. λ q n is.
    ap (λ t. walk (child t) 0 [] q) at.tree ∙ node_kept c.args.index.now c.enter_kept.new.index c.in_ok-made.ensures.entered 0 q n is)
    c.note.ensures

pub returns-clause-notes : goal.returns-clause-notes
returns-clause-notes c =
    on_ok_then c.note.result
    (λ at.
    noted_behind c.args.index.now c.enter_kept.new.index c.note.new.self _ c.in_ok-made.ensures.entered
    (at.notes c.args.name.now c.in_ok-made.ensures.is.is))
    c.note.ensures
