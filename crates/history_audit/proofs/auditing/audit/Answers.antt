use Rattle.std.proofs.Common.{◌∙◌, subst, sym}
use Rattle.mj_schema.specs.declared.schema.Schema.{Schema}
use Rattle.call_script.specs.Script.{IsScriptOf}
use Rattle.call_script.specs.Sound.{IsScript}
use Rattle.line_parts.specs.Schemas.{IsPrintableSchema}
use Rattle.history_audit.specs.Audited.{Audits}
use Rattle.history_audit.proofs.auditing.audit.Goals as goal

pub audit_over-requires-clause-same : goal.audit_over-requires-clause-same
audit_over-requires-clause-same c = c.in-Ok.ensures ∙ sym c.deref.ensures

pub audit_over-requires-clause-words : goal.audit_over-requires-clause-words
audit_over-requires-clause-words c = subst (λ (s : Schema). IsPrintableSchema s) (sym c.deref.ensures) c.requires.words

pub audit_over-requires-clause-sound : goal.audit_over-requires-clause-sound
audit_over-requires-clause-sound c = subst (λ (s : Schema). IsScript s c.args.script.now) (sym c.deref.ensures) c.requires.sound

pub audit_over-requires-clause-read : goal.audit_over-requires-clause-read
audit_over-requires-clause-read c = (
  c.requires.read.0,
  subst (λ (s : Schema). IsScriptOf s c.requires.read.0 c.args.script.now) (sym c.deref.ensures) c.requires.read.1,
)

pub returns : goal.returns
returns c = record {
  audits = subst (λ (s : Schema). Audits s c.args.script.now c.args.bytes.now c.audit_over.result) c.deref.ensures c.audit_over.ensures.audits;
}
