-- A schema that is shared.
use Rattle.std.proofs.Common.{◌≡◌, subst, sym}
use Rattle.mj_schema.specs.declared.schema.Schema.{Schema}
use Rattle.call_script.specs.declared.script.Script.{Script}
use Rattle.check_audits.specs.steps.Auditable.{IsAuditable}

-- what an audit asks for holds over a schema that is the same
pub auditable_over : (schema other : Schema) (script : Script) → other ≡ schema → IsAuditable schema script → IsAuditable other script
auditable_over schema other script same is = subst (λ (s : Schema). IsAuditable s script) (sym same) is
