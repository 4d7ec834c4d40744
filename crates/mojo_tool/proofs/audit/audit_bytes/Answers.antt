use Rattle.std.proofs.Common.{subst, sym}
use Rattle.std.specs.Prelude.{IfErr, IfOk}
use Rattle.mj_schema.specs.declared.schema.Schema.{Schema}
use Rattle.call_script.specs.Script.{IsScriptOf}
use Rattle.call_script.specs.Sound.{IsScript}
use Rattle.mojom_compile.specs.Schemas.{IsSchemaOfFiles}
use Rattle.mojo_tool.specs.Work.{Auditing}
use Rattle.mojo_tool.specs.steps.Messages.{IsTextOfWork}
use Rattle.mojo_tool.specs.steps.Stops.{StopsAt}
use Rattle.mojo_tool.proofs.audit.audit_bytes.Goals as goal

pub audit_shared-requires-clause-sound : goal.audit_shared-requires-clause-sound
audit_shared-requires-clause-sound c = subst (λ (s : Schema). IsScript s c.args.script.now) (sym c.in-Ok.ensures.ok) c.requires.sound

pub audit_shared-requires-clause-read : goal.audit_shared-requires-clause-read
audit_shared-requires-clause-read c = (
  c.requires.read.0,
  subst (λ (s : Schema). IsScriptOf s c.requires.read.0 c.args.script.now) (sym c.in-Ok.ensures.ok) c.requires.read.1,
)

pub audit_shared-requires-clause-compiled : goal.audit_shared-requires-clause-compiled
audit_shared-requires-clause-compiled c = (
  c.requires.compiled.0,
  subst (λ (s : Schema). IsSchemaOfFiles c.requires.compiled.0 s) (sym c.in-Ok.ensures.ok) c.requires.compiled.1,
)

pub returns-in-Ok-clause-text : goal.returns-in-Ok-clause-text
returns-in-Ok-clause-text c =
    subst (λ (s : Schema). IfOk c.audit_shared.result (IsTextOfWork (Auditing s c.args.script.now c.args.bytes.now))) c.in-Ok.ensures.ok
    c.audit_shared.ensures.text

pub returns-in-Ok-clause-stop : goal.returns-in-Ok-clause-stop
returns-in-Ok-clause-stop c =
    subst (λ (s : Schema). IfErr c.audit_shared.result (StopsAt (Auditing s c.args.script.now c.args.bytes.now))) c.in-Ok.ensures.ok
    c.audit_shared.ensures.stop
