use Rattle.check_audits.proofs.Shared.{auditable_over}
use Rattle.check_audits.proofs.engines.audited.Goals as goal

pub audit-requires-clause-words : goal.audit-requires-clause-words
audit-requires-clause-words c = (auditable_over _ _ _ c.in-Ok.ensures c.requires).words

pub audit-requires-clause-sound : goal.audit-requires-clause-sound
audit-requires-clause-sound c = (auditable_over _ _ _ c.in-Ok.ensures c.requires).sound

pub audit-requires-clause-read : goal.audit-requires-clause-read
audit-requires-clause-read c =
    let is = auditable_over _ _ _ c.in-Ok.ensures c.requires in
    (is.source, is.read)

pub audit-requires-clause-short : goal.audit-requires-clause-short
audit-requires-clause-short c = c.requires.short
