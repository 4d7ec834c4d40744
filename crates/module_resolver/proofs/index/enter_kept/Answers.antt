use Rattle.std.proofs.Common.{sym, subst}
use Rattle.module_resolver.specs.steps.Held.{IsEntry}
use Rattle.module_resolver.proofs.index.enter_kept.Goals as goal

pub returns-clause-is : goal.returns-clause-is
returns-clause-is c = subst (λ t. IsEntry c.enter_full.new.index t c.in_ok-made.made) (sym c.parts.ensures) c.in_ok-made.ensures.is
