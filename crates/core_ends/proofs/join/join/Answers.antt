use Rattle.std.proofs.Common.{refl}
use Rattle.core_ends.proofs.join.join.Goals as goal

pub returns-in-Ok-clause-done : goal.returns-in-Ok-clause-done
returns-in-Ok-clause-done c = c.in-Ok.ensures.done _ refl
