-- Why a load comes to nothing.
use Rattle.std.specs.Prelude.{◌≡◌, IfSome}
use Rattle.mojom_compile.specs.Schemas.{IsRefusalOf}
use Rattle.mojom_compile.specs.declared.schema_error.SchemaError.{SchemaError}
use Rattle.mojom_compile.specs.declared.schema_error.SchemaError.TheVariants as schema
use Rattle.load_command.specs.LoadFile.{load_name, load_sources}
use Rattle.mojo_tool.specs.Work.{unchecked}
use Rattle.mojo_tool.specs.Answers.{refused_name, refused_work}
use Rattle.mojo_tool.specs.declared.decide.Stop.{Stop}
use Rattle.mojo_tool.specs.declared.decide.Stop.TheVariants.{Refused, ReadFault, NoMemory}

-- the file of a load has no schema: the refusal names it, unless memory ran out
abbrev pub NotTabledLoad : SchemaError → Stop → Type 0
NotTabledLoad error (Refused refusal) =
    (refused_work refusal ≡ unchecked load_sources error) × IfSome (refused_name refusal) (λ name. name ≡ load_name)
NotTabledLoad error (ReadFault name) = ⊥
NotTabledLoad error NoMemory = error ≡ schema.Memory

-- there is no text: the file is refused, or memory ran out
abbrev pub NotLoaded : Stop → Type 0
NotLoaded (Refused refusal) = (error : SchemaError) × IsRefusalOf load_sources error × NotTabledLoad error (Refused refusal)
NotLoaded (ReadFault name) = ⊥
NotLoaded NoMemory = Unit {0}
