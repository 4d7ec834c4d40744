use Rattle.std.proofs.Common.{sym, ◌∙◌, ap}
use Rattle.name_refusals.specs.Known.{with_name}
use Rattle.name_refusals.specs.steps.Trees.{knows}
use Rattle.name_refusals.proofs.repeats.add_full.Goals as goal

pub returns-clause-was : goal.returns-clause-was
returns-clause-was c = c.in_ok-was.ensures.was ∙ ap (knows c.args.known.now) (sym c.parts.ensures.full)

pub returns-clause-added : goal.returns-clause-added
returns-clause-added c = c.in_ok-was.ensures.added ∙ ap (with_name (knows c.args.known.now)) (sym c.parts.ensures.full)
