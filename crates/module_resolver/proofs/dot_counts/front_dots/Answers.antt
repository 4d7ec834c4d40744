use Rattle.std.proofs.Common.{sym, ◌∙◌, subst}
use Rattle.module_resolver.specs.steps.Cuts.{Falls}
use Rattle.module_resolver.proofs.FrontDots.{dots_turned}
use Rattle.module_resolver.proofs.dot_counts.front_dots.Goals as goal

pub returns-clause-are : goal.returns-clause-are
returns-clause-are c =
    dots_turned c.args.parts.now c.first-item.result c.in_ok-dots.dots.items c.in-len1-up.len_at_least c.first-item.is c.in_ok-dots.ensures.are
    ∙ sym c.reversed.ensures

pub returns-clause-falls : goal.returns-clause-falls
returns-clause-falls c = subst Falls (sym c.reversed.ensures) c.in_ok-dots.ensures.falls
