use Rattle.std.proofs.Common.{◌≡◌, sym, ◌∙◌, ap}
use Rattle.std.specs.Prelude.{true}
use Rattle.name_refusals.specs.steps.Sets.{is_name}
use Rattle.name_refusals.proofs.KnownTree.{entered_none, hand_is}
use Rattle.name_refusals.proofs.known_names.KnownNames.node_of_module.Goals as goal

pub returns-then-is_name-clause-entered : goal.returns-then-is_name-clause-entered
returns-then-is_name-clause-entered c = entered_none c.args.self.now c.requires

pub returns-then-is_name-clause-is : goal.returns-then-is_name-clause-is
returns-then-is_name-clause-is c =
    let same : is_name c.args.self.now.around c.args.name.now ≡ true =
    ap (is_name c.args.self.now.around) (sym c.as_str.ensures) ∙ (sym c.is_name.ensures ∙ c.if-is_name.true) in
    hand_is c.args.self.now c.requires c.args.name.now same
