use Rattle.history_audit.proofs.auditing.audit_over.Goals as goal

pub returns-in-Err : goal.returns-in-Err
returns-in-Err c = record { audits = c.in-Err.ensures.bad c.args.script.now }
