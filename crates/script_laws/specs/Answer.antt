-- That bytes are a script or have a first refusal.
use Rattle.std.specs.Prelude.{ℕ, ◌⊎◌, List}
use Rattle.mj_schema.specs.declared.schema.Schema.{Schema}
use Rattle.call_script.specs.declared.script.Script.{Script}
use Rattle.call_script.specs.declared.script_error.LineRefusal.{LineRefusal}
use Rattle.call_script.specs.Script.{IsScriptOf, IsFirstRefusal}

-- the bytes are a script of the schema, or a line of them is the first that is refused
abbrev pub HasAnswer : Schema → List ℕ → Type 0
HasAnswer schema bytes =
    ((script : Script) × IsScriptOf schema bytes script) ⊎ ((line : ℕ) × (why : LineRefusal) × IsFirstRefusal schema bytes line why)
