use Rattle.std.proofs.Common.{◌∙◌, sym, ap, map}
use Rattle.module_resolver.specs.NameDots.{dots_in}
use Rattle.module_resolver.proofs.Falls.{falls_fronts}
use Rattle.module_resolver.proofs.fronts.Fronts.dots_at.Goals as goal

pub returns : goal.returns
returns c = λ k le lt.
    falls_fronts c.args.self.now c.self.inside.dots.items c.index.result.now c.args.number k
    (ap (map dots_in) (sym c.self.view_is) ∙ c.self.invariant.dotted) c.self.invariant.falls c.index.ensures le lt
