use Rattle.std.proofs.Common.{[], refl, sym, ◌∙◌, ap}
use Rattle.name_tree.specs.Walks.{walk}
use Rattle.name_tree.specs.Trees.{child}
use Rattle.name_refusals.proofs.KnownTree.{at_hand}
use Rattle.name_refusals.proofs.known_names.KnownNames.enter_module.Goals as goal

pub enter-requires-clause-there : goal.enter-requires-clause-there
enter-requires-clause-there c = c.requires.root

pub returns-clause-entered : goal.returns-clause-entered
returns-clause-entered c =
    let mid = c.enter.new.self in
    at_hand c.args.self.now mid _ c.in_ok-node.ensures.entered refl refl
    (ap (walk (child mid.tree) 0 []) (c.in_ok-kept.ensures ∙ sym c.as_str.ensures) ∙ c.in_ok-node.ensures.is)

pub returns-clause-is : goal.returns-clause-is
returns-clause-is c = ap (walk (child c.enter.new.self.tree) 0 []) (sym c.as_str.ensures) ∙ c.in_ok-node.ensures.is
