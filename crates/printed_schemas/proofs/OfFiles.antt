-- The schema of files can be printed.
use Rattle.std.proofs.Common.{ℕ, List, [], ◌∷◌, ap, ◌∙◌}
use Rattle.mj_schema.specs.declared.schema.Schema.{Schema}
use Rattle.mojom_ast.specs.declared.file.File.{File}
use Rattle.mojom_files.specs.declared.named_file.NamedFile.{NamedFile}
use Rattle.mojom_compile.specs.Compiled.{IsParsed}
use Rattle.mojom_compile.specs.Schemas.{AreTreesOf, IsSchemaOfFiles}
use Rattle.mojom_compile.specs.declared.source.Source.{Source}
use Rattle.line_parts.specs.Schemas.{IsPrintableSchema}
use Rattle.printed_schemas.specs.Spelled.{AreSpelled, IsSpelled}
use Rattle.printed_schemas.proofs.Schemas.{printable_schema}

spelled_of : (bytes : List ℕ) (tree : File) → IsParsed bytes tree → IsSpelled tree
spelled_of bytes tree parsed = record { bytes = bytes; tokens = parsed.tokens; are = parsed.are; spelled = parsed.spelled }

trees_spelled : (sources : List Source) (files : List NamedFile) → AreTreesOf sources files → AreSpelled files
trees_spelled [] [] trees = tt
trees_spelled [] (file ∷ files) trees = absurd trees
trees_spelled (source ∷ sources) [] trees = absurd trees
trees_spelled (source ∷ sources) (file ∷ files) trees = (spelled_of source.bytes file.tree trees.0.parsed, trees_spelled sources files trees.1)

-- the schema of files has names and numbers that a text can say
pub printable_of_files : (sources : List Source) (schema : Schema) → IsSchemaOfFiles sources schema → IsPrintableSchema schema
printable_of_files sources schema is =
    let t = is.tables.tables in
    let same = is.layout.interfaces ∙ ap (λ draft. draft.interfaces) t.are in
    printable_schema is.tables.files t.order t.names t.consts schema (trees_spelled sources is.tables.files is.tables.trees) t.passed same
