use Rattle.compat_laws.proofs.Stable.{reads_all}
use Rattle.compat_laws.proofs.compatible_is_read.Goals as goal

pub returns : goal.returns
returns c = λ old new interface row ok found. reads_all old new ok interface row found
