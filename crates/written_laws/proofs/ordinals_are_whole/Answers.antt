use Rattle.written_laws.proofs.Ordinals.{ordinals_whole}
use Rattle.written_laws.proofs.ordinals_are_whole.Goals as goal

pub returns : goal.returns
returns c = ordinals_whole
