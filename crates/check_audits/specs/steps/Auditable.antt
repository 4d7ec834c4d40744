-- What an audit asks for.
use Rattle.std.specs.Prelude.{ℕ, ◌≤◌, List}
use Rattle.mj_base.specs.declared.limits.TheConstants.{MAX_FILE_BYTES}
use Rattle.mj_schema.specs.declared.schema.Schema.{Schema}
use Rattle.line_parts.specs.Schemas.{IsPrintableSchema}
use Rattle.call_script.specs.Script.{IsScriptOf}
use Rattle.call_script.specs.Sound.{IsScript}
use Rattle.call_script.specs.declared.script.Script.{Script}

-- the schema can be printed, and the script is sound, was read of a text over it, and isn't longer than a file
pub record IsAuditable (schema : Schema) (script : Script) : Type 0 where
  pub words : IsPrintableSchema schema
  pub sound : IsScript schema script
  pub source : List ℕ
  pub read : IsScriptOf schema source script
  pub short : script.bytes ≤ MAX_FILE_BYTES
