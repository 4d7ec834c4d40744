use Rattle.std.proofs.Common.{sym, ◌∙◌}
use Rattle.kept_values.proofs.KeptLists.{nothing}
use Rattle.kept_values.proofs.few_things.FewThings.of.Goals as goal

pub returns-then-is_empty : goal.returns-then-is_empty
returns-then-is_empty c = nothing c.args.things c.as_slice.result.now c.as_slice.ensures (sym c.is_empty.ensures ∙ c.if-is_empty.true)

pub returns : goal.returns
returns c = c.in_ok-apart.ensures
