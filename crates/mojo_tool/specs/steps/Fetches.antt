-- What is fetched of several names, and why it isn't.
use Rattle.std.specs.Prelude.{ℕ, ◌≡◌, ◌<◌, ◌⊎◌, List, ◌∷◌, ◌++◌, slice_get, Option, Some, None}
use Rattle.mj_io.specs.Outside.{Named, FilesState}
use Rattle.mj_schema.specs.declared.schema.Schema.{Schema}
use Rattle.mojom_compile.specs.Schemas.{IsWhy}
use Rattle.mojom_compile.specs.declared.schema_error.SchemaError.{SchemaError}
use Rattle.mojom_compile.specs.declared.schema_error.SchemaError.TheVariants as schema
use Rattle.mojom_compile.specs.declared.source.Source.{Source}
use Rattle.mojo_tool.specs.Work.{Refuses, Rejects, AreFetched, HaveSchema}
use Rattle.mojo_tool.specs.Answers.{refused_work}
use Rattle.mojo_tool.specs.declared.decide.Stop.{Stop}
use Rattle.mojo_tool.specs.declared.decide.Stop.TheVariants.{Refused, ReadFault, NoMemory}
use Rattle.mojo_tool.specs.steps.Stops.{NotFetched}

-- the files of these names have these bytes, over files that say what they hold
abbrev pub AreBytes : Option (List Named) → List (List ℕ) → List Source → Type 0
AreBytes None names sources = Unit {0}
AreBytes (Some files) names sources = AreFetched files names sources

-- a name was not fetched, but those before it were
pub record IsFirstUnfetched (before now : FilesState) (names : List (List ℕ)) (stop : Stop) : Type 0 where
  pub fetched : List Source
  pub first : List (List ℕ)
  pub name : List ℕ
  pub left : List (List ℕ)
  pub all : names ≡ first ++ name ∷ left
  pub are : AreBytes before.held first fetched
  pub not : NotFetched before now name stop

-- the files of these names have this schema, over files that say what they hold
abbrev pub HaveSchemaOver : Option (List Named) → List (List ℕ) → Schema → Type 0
HaveSchemaOver None names schema = Unit {0}
HaveSchemaOver (Some files) names schema = HaveSchema files names schema

-- not all were fetched, or there was no memory
abbrev pub NotAllFetched : FilesState → FilesState → List (List ℕ) → Stop → Type 0
NotAllFetched before now names (Refused refusal) = IsFirstUnfetched before now names (Refused refusal)
NotAllFetched before now names (ReadFault name) = IsFirstUnfetched before now names (ReadFault name)
NotAllFetched before now names NoMemory = Unit {0}

-- the file that is refused has a number below this one
abbrev pub IsNumbered : ℕ → SchemaError → Type 0
IsNumbered count (schema.Unread file why) = file < count
IsNumbered count (schema.Refused why) = why.file < count
IsNumbered count schema.Memory = Unit {0}

-- files have no schema: the refusal names the one that is refused, which is one of these, unless memory ran out
abbrev pub NotTabled : List (List ℕ) → SchemaError → Stop → Type 0
NotTabled names (schema.Unread file why) (Refused refusal) =
    (name : List ℕ) × (slice_get names file ≡ Some name) × (refused_work refusal ≡ Refuses name why)
NotTabled names (schema.Refused why) (Refused refusal) =
    (name : List ℕ) × (slice_get names why.file ≡ Some name) × (refused_work refusal ≡ Rejects name why.at why.cause)
NotTabled names schema.Memory (Refused refusal) = ⊥
NotTabled names error (ReadFault name) = ⊥
NotTabled names error NoMemory = error ≡ schema.Memory

-- all were fetched, and have no schema
pub record IsRefusedSet (held : Option (List Named)) (names : List (List ℕ)) (stop : Stop) : Type 0 where
  pub sources : List Source
  pub error : SchemaError
  pub are : AreBytes held names sources
  pub why : IsWhy sources error
  pub not : NotTabled names error stop

-- there is no schema of these files
abbrev pub NoSchema : FilesState → FilesState → List (List ℕ) → Stop → Type 0
NoSchema before now names stop = NotAllFetched before now names stop ⊎ IsRefusedSet before.held names stop
