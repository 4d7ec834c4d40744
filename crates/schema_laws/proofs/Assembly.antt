-- Where no stage refuses anything of files, their tables are whole.
use Rattle.std.proofs.Common.{ℕ, List}
use Rattle.mojom_files.specs.declared.named_file.NamedFile.{NamedFile}
use Rattle.module_resolver.specs.declared.file_names.Names.{Names}
use Rattle.const_eval.specs.declared.consts.Consts.{Consts}
use Rattle.draft_rows.specs.Drafts.{draft_of}
use Rattle.schema_laws.specs.Passed.{IsPassed}
use Rattle.schema_laws.specs.Whole.{IsWhole}
use Rattle.schema_laws.proofs.Tables.{draft_counts}
use Rattle.schema_laws.proofs.ConstsHaveRows.{have_rows}
use Rattle.schema_laws.proofs.RowsWithin.{passed_rows, kinds_there}
use Rattle.schema_laws.proofs.Members.{have_members}
use Rattle.schema_laws.proofs.DraftKinds.{allowed}
use Rattle.schema_laws.proofs.FullNames.{distinct_names}
use Rattle.schema_laws.proofs.Rows.{whole}

-- the rows of files are well formed, and their structs can be laid out
pub whole_passed : (files : List NamedFile) (order : List ℕ) (names : Names) (consts : Consts) → IsPassed files order names consts
    → IsWhole (draft_of names.files consts files order)
whole_passed files order names consts is =
    let draft = draft_of names.files consts files order in
    let there = passed_rows files order names consts is (have_rows files order names consts is) in
    let kinds = allowed files order names consts is in
    whole draft (have_members files order names consts is)
    (record {
      within = kinds_there (draft_counts draft) draft there;
      methods = there.methods;
      order = there.order;
      allowed = kinds.allowed;
      flags = kinds.flags;
      names = distinct_names files order names consts is;
    })
