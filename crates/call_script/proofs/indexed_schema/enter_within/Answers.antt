use Rattle.std.proofs.Common.{ℕ, [], ◌∙◌, ap}
use Rattle.std.specs.Prelude.{option_and_then}
use Rattle.name_tree.specs.Walks.{walk}
use Rattle.name_tree.specs.Trees.{child, count}
use Rattle.name_tree.proofs.Walks.{two_walks, in_tree, kept_walk}
use Rattle.name_tree.proofs.Steps.{grown_twice}
use Rattle.call_script.proofs.indexed_schema.enter_within.Goals as goal

pub enter-requires-2-clause-there : goal.enter-requires-2-clause-there
enter-requires-2-clause-there c =
    let mid = c.enter.new.self in
    let inner = c.in_ok-inner.ensures in
    in_tree (child mid) (count mid) inner.tree.tree c.args.node [] c.args.outer.now c.in_ok-inner.inner inner.is

pub returns-clause-grows : goal.returns-clause-grows
returns-clause-grows c =
    let old = c.args.tree.now in
    let mid = c.enter.new.self in
    let new = c.enter-2.new.self in
    grown_twice (child old) (child mid) (child new) (count old) (count mid) (count new) c.in_ok-inner.ensures.grows c.in_ok-made.ensures.grows

pub returns-clause-is : goal.returns-clause-is
returns-clause-is c =
    let mid = c.enter.new.self in
    let new = c.enter-2.new.self in
    let inner = c.in_ok-inner.ensures in
    let made = c.in_ok-made.ensures in
    two_walks (child new) c.args.node [] c.args.outer.now c.args.name.now
    ∙ (ap (option_and_then (λ (k : ℕ). walk (child new) k [] c.args.name.now))
    (kept_walk (child mid) (child new) made.grows.kept c.args.node [] c.args.outer.now c.in_ok-inner.inner inner.is)
    ∙ made.is)
