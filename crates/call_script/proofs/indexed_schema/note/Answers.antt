use Rattle.std.specs.Prelude.{nat_eq}
use Rattle.indexmap.specs.IndexMap.{get}
use Rattle.mj_base.specs.Names.{full_name}
use Rattle.call_script.proofs.Interfaces.{kept_more, noted_more}
use Rattle.call_script.proofs.indexed_schema.note.Goals as goal

pub enter_full-requires-clause-tree : goal.enter_full-requires-clause-tree
enter_full-requires-clause-tree c = c.requires.kept.tree_is

pub enter_full-requires-clause-root : goal.enter_full-requires-clause-root
enter_full-requires-clause-root c = c.requires.kept.root

pub returns-clause-kept : goal.returns-clause-kept
returns-clause-kept c =
    let name = full_name c.args.name.module_name.now c.args.name.outer.now c.args.name.name.now in
    let made = c.in_ok-made.ensures in
    kept_more c.args.tree.now c.enter_full.new.tree (get nat_eq c.args.numbers.now) (get nat_eq c.keep.new.numbers) c.in_ok-made.made.node
    c.args.number name c.requires.kept made.tree made.grows made.is c.in_ok-keep.ensures

pub returns-clause-noted : goal.returns-clause-noted
returns-clause-noted c =
    let name = full_name c.args.name.module_name.now c.args.name.outer.now c.args.name.name.now in
    let made = c.in_ok-made.ensures in
    noted_more c.args.tree.now c.enter_full.new.tree (get nat_eq c.args.numbers.now) (get nat_eq c.keep.new.numbers) c.in_ok-made.made.node
    c.args.number name c.requires.kept made.tree made.grows made.is c.in_ok-keep.ensures
