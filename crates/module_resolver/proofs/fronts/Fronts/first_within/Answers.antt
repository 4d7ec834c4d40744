use Rattle.std.proofs.Common.{arith, ◌≡◌, ◌<◌, ◌∙◌, length, map, sym, ap}
use Rattle.module_resolver.specs.NameDots.{dots_in}
use Rattle.module_resolver.proofs.Falls.{as_many, front_dots}
use Rattle.module_resolver.proofs.fronts.Fronts.first_within.Goals as goal

pub returns-clause-bound : goal.returns-clause-bound
returns-clause-bound c =
    let ordered = c.loop-low.invariant.ordered in
    let bound = c.loop-low.invariant.bound in
    let many = as_many c.args.self.now c.self.inside.dots.items (ap (map dots_in) (sym c.self.view_is) ∙ c.self.invariant.dotted) in
    omega (arith, ordered, bound, many)

pub returns-clause-before : goal.returns-clause-before
returns-clause-before c = λ k from less.
    let fronts = c.args.self.now in
    let ordered = c.loop-low.invariant.ordered in
    let bound = c.loop-low.invariant.bound in
    let are : map dots_in fronts ≡ c.self.inside.dots.items = ap (map dots_in) (sym c.self.view_is) ∙ c.self.invariant.dotted in
    let many = as_many fronts c.self.inside.dots.items are in
    let there : k < length fronts = omega (arith, less, ordered, bound, many) in
    let one = front_dots fronts c.self.inside.dots.items k are there in
    let above = c.loop-low.invariant.before k from less in
    omega (arith, one, above)
