use Rattle.std.proofs.Common.{◌<◌, ℕ, List, [], ◌∙◌, ap, arith}
use Rattle.name_tree.specs.Walks.{walk}
use Rattle.name_tree.specs.Trees.{child, count}
use Rattle.name_tree.proofs.Walks.{kept_walk}
use Rattle.name_tree.proofs.Steps.{grown_twice}
use Rattle.mj_base.specs.Names.{named_in}
use Rattle.mj_base.proofs.FullNames.{full_name_is}
use Rattle.call_script.proofs.Interfaces.{stands_there, stands_kept, in_module}
use Rattle.call_script.proofs.indexed_schema.enter_full.Goals as goal

pub enter_below-requires-clause-there : goal.enter_below-requires-clause-there
enter_below-requires-clause-there c =
    let mid = c.module_node.new.tree in
    let around = c.in_ok-front.ensures in
    let one = c.requires.root in
    let more = around.grows.longer in
    let root : 0 < count mid = omega (arith, one, more) in
    stands_there mid around.tree root c.args.name.module_name.now c.in_ok-front.front around.is

pub returns-clause-grows : goal.returns-clause-grows
returns-clause-grows c =
    let old = c.args.tree.now in
    let mid = c.module_node.new.tree in
    let new = c.enter_below.new.tree in
    grown_twice (child old) (child mid) (child new) (count old) (count mid) (count new) c.in_ok-front.ensures.grows c.in_ok-node.ensures.grows

pub returns-clause-stands : goal.returns-clause-stands
returns-clause-stands c =
    let mid = c.module_node.new.tree in
    let new = c.enter_below.new.tree in
    stands_kept mid new c.args.name.module_name.now c.in_ok-front.front
    (λ text found is. kept_walk (child mid) (child new) c.in_ok-node.ensures.grows.kept 0 [] text found is) c.in_ok-front.ensures.is

pub returns-clause-is : goal.returns-clause-is
returns-clause-is c =
    let mid = c.module_node.new.tree in
    let new = c.enter_below.new.tree in
    let around = c.args.name.module_name.now in
    let outer = c.args.name.outer.now in
    let name = c.args.name.name.now in
    let stands =
    stands_kept mid new around c.in_ok-front.front
    (λ text found is. kept_walk (child mid) (child new) c.in_ok-node.ensures.grows.kept 0 [] text found is) c.in_ok-front.ensures.is in
    ap (walk (child new) 0 []) (full_name_is around outer name)
    ∙ (in_module new around (named_in outer name) c.in_ok-front.front stands ∙ c.in_ok-node.ensures.is)
