use Rattle.check_audits.proofs.Shared.{auditable_over}
use Rattle.check_audits.proofs.engines.run_text.Goals as goal

pub run_alone-requires-clause-script : goal.run_alone-requires-clause-script
run_alone-requires-clause-script c = (auditable_over _ _ _ c.in-Ok.ensures c.requires).sound

pub run_alone-requires-clause-short : goal.run_alone-requires-clause-short
run_alone-requires-clause-short c = c.requires.short
