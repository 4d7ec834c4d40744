use Rattle.printed_schemas.proofs.OfFiles.{printable_of_files}
use Rattle.check_audits.proofs.subject.schema_of.Goals as goal

pub returns-in-Ok : goal.returns-in-Ok
returns-in-Ok c = printable_of_files _ c.in-Ok.schema c.in-Ok.ensures.schema
