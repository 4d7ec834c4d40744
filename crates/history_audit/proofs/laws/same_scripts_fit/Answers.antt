use Rattle.history_audit.proofs.SameScripts.{audits_same}
use Rattle.history_audit.proofs.laws.same_scripts_fit.Goals as goal

pub returns : goal.returns
returns c = λ schema one other bytes result same back fits. audits_same schema one other bytes result same back fits
