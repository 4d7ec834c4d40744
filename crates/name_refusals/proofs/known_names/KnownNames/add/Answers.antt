use Rattle.std.proofs.Common.{refl, ◌∙◌}
use Rattle.mj_base.specs.Names.{full_name}
use Rattle.name_refusals.proofs.KnownTree.{known_more, was_known}
use Rattle.name_refusals.proofs.known_names.KnownNames.add.Goals as goal

pub returns-clause-known : goal.returns-clause-known
returns-clause-known c =
    let name = full_name c.args.name.module_name.now c.args.name.outer.now c.args.name.name.now in
    let new = record c.enter_full.new.self { nodes = c.insert.new.self } in
    (known_more c.args.self.now c.enter_full.new.self new c.in_ok-node.node name c.in_ok-node.ensures.entered refl refl refl c.in_ok-node.ensures.is
    c.in_ok-insert.ensures.updates.0).0

pub returns-clause-was : goal.returns-clause-was
returns-clause-was c =
    let name = full_name c.args.name.module_name.now c.args.name.outer.now c.args.name.name.now in
    c.has_node-was.ensures
    ∙ was_known c.args.self.now c.enter_full.new.self c.in_ok-node.node name c.in_ok-node.ensures.entered c.in_ok-node.ensures.is

pub returns-clause-added : goal.returns-clause-added
returns-clause-added c =
    let name = full_name c.args.name.module_name.now c.args.name.outer.now c.args.name.name.now in
    let new = record c.enter_full.new.self { nodes = c.insert.new.self } in
    (known_more c.args.self.now c.enter_full.new.self new c.in_ok-node.node name c.in_ok-node.ensures.entered refl refl refl c.in_ok-node.ensures.is
    c.in_ok-insert.ensures.updates.0).1
