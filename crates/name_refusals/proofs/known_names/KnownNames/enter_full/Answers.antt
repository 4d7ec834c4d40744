use Rattle.std.proofs.Common.{◌∙◌}
use Rattle.name_refusals.proofs.KnownTree.{entered_twice, stands_there, full_walk, stays}
use Rattle.name_refusals.proofs.known_names.KnownNames.enter_full.Goals as goal

pub enter_below-requires-clause-there : goal.enter_below-requires-clause-there
enter_below-requires-clause-there c =
    let is = c.in_ok-around.ensures in
    stands_there c.module_node.new.self is.entered.known c.args.name.module_name.now c.in_ok-around.around is.is

pub returns-clause-entered : goal.returns-clause-entered
returns-clause-entered c =
    entered_twice c.args.self.now c.module_node.new.self c.enter_below.new.self c.in_ok-around.ensures.entered c.in_ok-made.ensures.entered

pub returns-clause-is : goal.returns-clause-is
returns-clause-is c =
    let new = c.enter_below.new.self in
    let name = c.args.name in
    full_walk new.tree name.module_name.now name.outer.now name.name.now c.in_ok-around.around
    (stays c.module_node.new.self new c.in_ok-made.ensures.entered name.module_name.now c.in_ok-around.around c.in_ok-around.ensures.is)
    ∙ c.in_ok-made.ensures.is
