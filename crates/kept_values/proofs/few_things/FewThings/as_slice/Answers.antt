use Rattle.std.proofs.Common.{◌∙◌}
use Rattle.kept_values.proofs.few_things.FewThings.as_slice.Goals as goal

pub returns : goal.returns
returns c = c.things_of.ensures ∙ c.self.view_is
