-- Which files have which schema, and which refusal.
use Rattle.std.specs.Prelude.{ℕ, ◌≡◌, ◌<◌, ◌≤◌, ◌+◌, ◌^◌, ◌⊎◌, List, [], ◌∷◌, length, map, take, slice_get, Some}
use Rattle.mj_schema.specs.declared.schema.Schema.{Schema}
use Rattle.mj_schema.specs.Layout.{draft_of}
use Rattle.mojom_files.specs.declared.named_file.NamedFile.{NamedFile}
use Rattle.mojom_files.specs.declared.refusal.Refusal.{Refusal}
use Rattle.module_resolver.specs.declared.file_names.Names.{Names}
use Rattle.const_eval.specs.declared.consts.Consts.{Consts}
use Rattle.draft_rows.specs.declared.draft.Draft.{Draft}
use Rattle.draft_rows.specs.Drafts.{draft_of as tables_of}
use Rattle.schema_laws.specs.Passed.{IsPassed}
use Rattle.schema_laws.specs.Refused.{IsStageRefusal}
use Rattle.mojom_compile.specs.declared.error.FileRefusal.{FileRefusal}
use Rattle.mojom_compile.specs.declared.schema_error.SchemaError.{SchemaError}
use Rattle.mojom_compile.specs.declared.schema_error.SchemaError.TheVariants.{Unread, Refused, Memory}
use Rattle.mojom_compile.specs.declared.source.Source.{Source}
use Rattle.mojom_compile.specs.Compiled.{IsParsed, IsUnread}

-- trees

-- the tree of a file that is given
pub record IsTreeOf (source : Source) (file : NamedFile) : Type 0 where
  pub name : file.name ≡ source.name
  pub parsed : IsParsed source.bytes file.tree

-- the trees of files, each of its own
abbrev pub AreTreesOf : List Source → List NamedFile → Type 0
AreTreesOf [] [] = Unit {0}
AreTreesOf [] (file ∷ files) = ⊥
AreTreesOf (source ∷ sources) [] = ⊥
AreTreesOf (source ∷ sources) (file ∷ files) = IsTreeOf source file × AreTreesOf sources files

-- the first file that has no tree, and why
pub record IsFirstUnread (sources : List Source) (file : ℕ) (refusal : FileRefusal) : Type 0 where
  pub before : List NamedFile
  pub trees : AreTreesOf (take file sources) before
  pub source : Source
  pub is : slice_get sources file ≡ Some source
  pub unread : IsUnread source.bytes refusal

-- refusals

-- all files have trees, of which this is refused
pub record IsTreesRefusal (sources : List Source) (refusal : Refusal) : Type 0 where
  pub files : List NamedFile
  pub trees : AreTreesOf sources files
  pub refused : IsStageRefusal files refusal

-- why files have no schema: a file without a tree, or else what is refused of their trees
abbrev pub IsRefusalOf : List Source → SchemaError → Type 0
IsRefusalOf sources (Unread file refusal) = IsFirstUnread sources file refusal
IsRefusalOf sources (Refused refusal) = IsTreesRefusal sources refusal
IsRefusalOf sources Memory = ⊥

-- the file that is refused is one of those that are given
abbrev pub IsOfGiven : List Source → SchemaError → Type 0
IsOfGiven sources (Unread file refusal) = file < length sources
IsOfGiven sources (Refused refusal) = refusal.file < length sources
IsOfGiven sources Memory = Unit {0}

-- a refusal, or want of memory
abbrev pub IsWhy : List Source → SchemaError → Type 0
IsWhy sources error = (error ≡ Memory) ⊎ IsRefusalOf sources error

-- schemas

-- the tables of files by their trees, of which no stage refuses anything
pub record AreTablesOf (files : List NamedFile) (draft : Draft) : Type 0 where
  pub order : List ℕ
  pub names : Names
  pub consts : Consts
  pub passed : IsPassed files order names consts
  pub are : draft ≡ tables_of names.files consts files order

-- the files have trees, of which these are the tables
pub record HaveTables (sources : List Source) (draft : Draft) : Type 0 where
  pub files : List NamedFile
  pub trees : AreTreesOf sources files
  pub tables : AreTablesOf files draft

-- the schema has the rows of these tables, with the fields of structs at their places
pub record IsLayoutOf (draft : Draft) (schema : Schema) : Type 0 where
  pub structs : map draft_of schema.structs ≡ draft.structs
  pub unions : schema.unions ≡ draft.unions
  pub enums : schema.enums ≡ draft.enums
  pub interfaces : schema.interfaces ≡ draft.interfaces
  pub consts : schema.consts ≡ draft.consts
  pub order : schema.order ≡ draft.order

-- the schema of files
pub record IsSchemaOfFiles (sources : List Source) (schema : Schema) : Type 0 where
  pub draft : Draft
  pub tables : HaveTables sources draft
  pub layout : IsLayoutOf draft schema

-- how many rows tables have in all
abbrev pub rows_in : Draft → ℕ
rows_in draft = length draft.structs + length draft.unions + length draft.enums + length draft.interfaces + length draft.consts

-- the tables of the files have more rows than there are numbers of 32 bits
pub record HasTooManyRows (sources : List Source) : Type 0 where
  pub draft : Draft
  pub tables : HaveTables sources draft
  pub many : 2 ^ 32 ≤ rows_in draft

-- files have just one schema or just one refusal, and never both, but for more rows than a schema can have; the file that is refused is one of them
pub record OneSchemaOfFiles (sources : List Source) : Type 0 where
  pub some :
      ((schema : Schema) × IsSchemaOfFiles sources schema)
      ⊎ (((error : SchemaError) × IsRefusalOf sources error) ⊎ HasTooManyRows sources)
  pub one_schema : (schema other : Schema) → IsSchemaOfFiles sources schema → IsSchemaOfFiles sources other → schema ≡ other
  pub one_refusal : (error other : SchemaError) → IsRefusalOf sources error → IsRefusalOf sources other → error ≡ other
  pub never_both : (schema : Schema) (error : SchemaError) → IsSchemaOfFiles sources schema → IsRefusalOf sources error → ⊥
  pub of_given : (error : SchemaError) → IsRefusalOf sources error → IsOfGiven sources error
