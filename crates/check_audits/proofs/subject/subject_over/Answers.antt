use Rattle.check_audits.proofs.Shared.{auditable_over}
use Rattle.check_audits.proofs.subject.subject_over.Goals as goal

pub returns-in-Ok : goal.returns-in-Ok
returns-in-Ok c = auditable_over _ _ _ c.in-Ok.ensures.ok c.requires
