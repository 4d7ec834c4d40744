use Rattle.std.proofs.Common.{[], ◌∙◌, ap}
use Rattle.mj_base.specs.Names.{within}
use Rattle.name_tree.specs.Walks.{walk}
use Rattle.name_tree.specs.Trees.{child}
use Rattle.module_resolver.proofs.Held.{node_there, node_kept, measured, noted_behind}
use Rattle.module_resolver.proofs.Owned.{on_ok_then}
use Rattle.module_resolver.proofs.index.note_within.Goals as goal

pub enter_below-requires-clause-there : goal.enter_below-requires-clause-there
enter_below-requires-clause-there c =
    node_there c.args.index.now c.requires.sound 0 c.args._outer.now c.args.entry.node c.requires.at.is

pub note-requires-clause-there : goal.note-requires-clause-there
note-requires-clause-there c =
    let made = c.in_ok-made.ensures in
    let is = made.is c.args._outer.now c.requires.at in
    node_there c.enter_below.new.index made.entered.sound 0 (within c.args._outer.now c.args.name.now) c.in_ok-made.made.node is.is

pub note-requires-clause-measured : goal.note-requires-clause-measured
note-requires-clause-measured c =
    let made = c.in_ok-made.ensures in
    let is = made.is c.args._outer.now c.requires.at in
    measured c.enter_below.new.index made.entered.sound (within c.args._outer.now c.args.name.now) c.in_ok-made.made is

pub returns-clause-nodes : goal.returns-clause-nodes
returns-clause-nodes c =
    on_ok_then c.note.result
    (λ at. λ q n is.
    ap (λ t. walk (child t) 0 [] q) at.tree ∙ node_kept c.args.index.now c.enter_below.new.index c.in_ok-made.ensures.entered 0 q n is)
    c.note.ensures

pub returns-clause-notes : goal.returns-clause-notes
returns-clause-notes c =
    let made = c.in_ok-made.ensures in
    let is = made.is c.args._outer.now c.requires.at in
    on_ok_then c.note.result
    (λ at.
    noted_behind c.args.index.now c.enter_below.new.index c.note.new.self _ made.entered
    (at.notes (within c.args._outer.now c.args.name.now) is.is))
    c.note.ensures
