use Rattle.std.proofs.Common.{ℕ, [], ◌∙◌, ap}
use Rattle.std.specs.Prelude.{option_and_then}
use Rattle.name_tree.specs.Walks.{walk}
use Rattle.name_tree.specs.Trees.{child}
use Rattle.name_tree.proofs.Walks.{two_walks}
use Rattle.name_refusals.proofs.KnownTree.{entered_twice, node_there}
use Rattle.name_refusals.proofs.known_names.KnownNames.enter_within.Goals as goal

pub enter-requires-2-clause-there : goal.enter-requires-2-clause-there
enter-requires-2-clause-there c =
    let inner = c.in_ok-inner.ensures in
    node_there c.enter.new.self inner.entered.known c.args.node c.args.outer.now c.in_ok-inner.inner inner.is

pub returns-clause-entered : goal.returns-clause-entered
returns-clause-entered c =
    entered_twice c.args.self.now c.enter.new.self c.enter-2.new.self c.in_ok-inner.ensures.entered c.in_ok-made.ensures.entered

pub returns-clause-is : goal.returns-clause-is
returns-clause-is c =
    let step = child c.enter-2.new.self.tree in
    let made = c.in_ok-made.ensures in
    two_walks step c.args.node [] c.args.outer.now c.args.name.now
    ∙ (ap (option_and_then (λ (k : ℕ). walk step k [] c.args.name.now))
    (made.entered.kept c.args.node c.args.outer.now c.in_ok-inner.inner c.in_ok-inner.ensures.is)
    ∙ made.is)
