use Rattle.std.proofs.Common.{sym, ap, ◌∙◌}
use Rattle.kept_values.specs.KeptTrees.{few_of}
use Rattle.kept_values.proofs.few_things.things_of.Goals as goal

pub returns-in-Some : goal.returns-in-Some
returns-in-Some c = c.as_slice.ensures ∙ (c.get.ensures ∙ ap few_of (sym c.in-Some.is))
