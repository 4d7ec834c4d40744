-- A schema with the interfaces of files can be printed.
use Rattle.std.proofs.Common.{◌≡◌, ℕ, List}
use Rattle.mj_schema.specs.declared.schema.Schema.{Schema}
use Rattle.mojom_files.specs.declared.named_file.NamedFile.{NamedFile}
use Rattle.module_resolver.specs.declared.file_names.Names.{Names}
use Rattle.const_eval.specs.declared.consts.Consts.{Consts}
use Rattle.draft_rows.specs.Drafts.{draft_of}
use Rattle.schema_laws.specs.Passed.{IsPassed}
use Rattle.line_parts.specs.Schemas.{IsPrintableSchema}
use Rattle.printed_schemas.specs.Spelled.{AreSpelled}
use Rattle.printed_schemas.proofs.SmallNumbers.{ordinals_small, small_of_tables, versions_small}
use Rattle.printed_schemas.proofs.WordMeanings.{interface_means, message_means}
use Rattle.printed_schemas.proofs.WordsOfTables.{names_of_tables}

-- it has words that mean what they name, and numbers of 32 bits
pub printable_schema : (files : List NamedFile) (order : List ℕ) (names : Names) (consts : Consts) (schema : Schema) → AreSpelled files
    → IsPassed files order names consts → schema.interfaces ≡ (draft_of names.files consts files order).interfaces → IsPrintableSchema schema
printable_schema files order names consts schema trees passed same =
    let plain = names_of_tables files order names consts schema trees passed same in
    let small = small_of_tables files order names.files consts schema same in
    record {
      interfaces = interface_means schema plain;
      messages = λ side n ordinal number method found struct. message_means schema plain side n ordinal method number found struct;
      ordinals = ordinals_small schema small;
      versions = versions_small schema small;
    }
