use Rattle.history_audit.proofs.Sound.{run_sound}
use Rattle.history_audit.proofs.laws.runs_are_sound.Goals as goal

pub returns : goal.returns
returns c = run_sound
