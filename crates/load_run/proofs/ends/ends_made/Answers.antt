use Rattle.std.proofs.Common.{◌∙◌}
use Rattle.load_run.proofs.Pairing.{made_same}
use Rattle.load_run.proofs.ends.ends_made.Goals as goal

pub returns-in-Made : goal.returns-in-Made
returns-in-Made c = λ things told. c.into_vec.ensures ∙ made_same c.in-Made.handles things (rw c.in-Made.is at told)
