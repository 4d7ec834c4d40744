use Rattle.std.proofs.Common.{◌≡◌, ℕ, List, Option, sym, ◌∙◌, subst}
use Rattle.name_tree.specs.Trees.{child, count}
use Rattle.name_tree.proofs.Steps.{as_before}
use Rattle.call_script.specs.steps.Interfaces.{StandsAt}
use Rattle.call_script.proofs.Interfaces.{same_is}
use Rattle.call_script.proofs.indexed_schema.module_node.Goals as goal

pub returns-then-are_same-clause-grows : goal.returns-then-are_same-clause-grows
returns-then-are_same-clause-grows c = as_before (child c.args.tree.now) (count c.args.tree.now)

pub returns-then-are_same-clause-is : goal.returns-then-are_same-clause-is
returns-then-are_same-clause-is c =
    let same : c.args.around.now ≡ c.args.name.now = same_is c.args.around.now c.args.name.now (sym c.are_same.ensures ∙ c.if-are_same.true) in
    subst (λ (o : Option (List ℕ)). StandsAt c.args.tree.now o c.args.at) same c.requires.stands
