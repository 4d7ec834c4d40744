use Rattle.std.proofs.Common.{◌+◌, ℕ, ◌∙◌, ap}
use Rattle.module_resolver.proofs.Held.{entry_within}
use Rattle.module_resolver.proofs.index.enter_below.Goals as goal

pub returns-clause-is : goal.returns-clause-is
returns-clause-is c = λ outer at.
    entry_within c.args.index.now c.enter.new.self c.in_ok-node.ensures.entered outer c.args.name.now c.args.entry _ at c.in_ok-node.ensures.is
    (c.in_ok-dots.ensures ∙ ap (λ (n : ℕ). c.args.entry.dots + n + 1) c.dots_in.ensures)
