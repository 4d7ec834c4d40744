-- What the parts of a compile answer.
use Rattle.std.specs.Prelude.{ℕ, ◌≡◌, List}
use Rattle.mojom_files.specs.declared.named_file.NamedFile.{NamedFile}
use Rattle.mojom_compile.specs.declared.schema_error.SchemaError.{SchemaError}
use Rattle.mojom_compile.specs.declared.schema_error.SchemaError.TheVariants.{Unread, Refused, Memory}
use Rattle.mojom_compile.specs.declared.source.Source.{Source}
use Rattle.mojom_compile.specs.Compiled.{IsUnread}
use Rattle.schema_laws.specs.Refused.{IsStageRefusal}

-- the refusal of a stage, or want of memory
abbrev pub IsOfStages : List NamedFile → SchemaError → Type 0
IsOfStages files (Unread file refusal) = ⊥
IsOfStages files (Refused refusal) = IsStageRefusal files refusal
IsOfStages files Memory = Unit {0}

-- the file of this number has no tree, or want of memory
abbrev pub IsUnreadFile : ℕ → Source → SchemaError → Type 0
IsUnreadFile number source (Unread file refusal) = (file ≡ number) × IsUnread source.bytes refusal
IsUnreadFile number source (Refused refusal) = ⊥
IsUnreadFile number source Memory = Unit {0}
