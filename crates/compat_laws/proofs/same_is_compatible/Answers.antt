use Rattle.compat_laws.proofs.Same.{same_is_compatible}
use Rattle.compat_laws.proofs.same_is_compatible.Goals as goal

pub returns : goal.returns
returns c = same_is_compatible
