use Rattle.std.specs.Arc.{arc_value}
use Rattle.mojo_tool.specs.Work.{Auditing}
use Rattle.mojo_tool.specs.steps.Messages.{IsTextOfWork}
use Rattle.mojo_tool.specs.steps.Stops.{StopsAt}
use Rattle.mojo_tool.proofs.Histories.{said_stop, said_text}
use Rattle.printed_schemas.proofs.OfFiles.{printable_of_files}
use Rattle.mojo_tool.proofs.audit.audit_shared.Goals as goal

pub audit-requires-clause-words : goal.audit-requires-clause-words
audit-requires-clause-words c = printable_of_files c.requires.compiled.0 (arc_value c.args.schema) c.requires.compiled.1

pub returns-in-Ok-clause-text : goal.returns-in-Ok-clause-text
returns-in-Ok-clause-text c =
    said_text (λ schema script bytes text. IsTextOfWork (Auditing schema script bytes) text) c.in-Ok.answer (arc_value c.args.schema)
    c.args.script.now c.args.bytes.now c.say.result c.in-Ok.ensures.audits c.say.ensures.text

pub returns-in-Ok-clause-stop : goal.returns-in-Ok-clause-stop
returns-in-Ok-clause-stop c =
    said_stop (λ schema script bytes stop. StopsAt (Auditing schema script bytes) stop) c.in-Ok.answer (arc_value c.args.schema)
    c.args.script.now c.args.bytes.now c.say.result c.in-Ok.ensures.audits c.say.ensures.stop
