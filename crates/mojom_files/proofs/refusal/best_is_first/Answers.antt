use Rattle.mojom_files.proofs.Best.{best_is_first}
use Rattle.mojom_files.proofs.refusal.best_is_first.Goals as goal

pub returns : goal.returns
returns c = best_is_first
