-- Of files of which no stage refuses anything nothing is lost.
use Rattle.std.proofs.Common.{◌≡◌, ℕ, List, sym, ap, subst}
use Rattle.std.specs.Prelude.{Some, is_some}
use Rattle.std.specs.List.{AllByRecursion}
use Rattle.mojom_files.specs.declared.named_file.NamedFile.{NamedFile}
use Rattle.mojom_files.specs.Definitions.{Defined, definitions_of}
use Rattle.module_resolver.specs.declared.target.Target.TheVariants as targets
use Rattle.module_resolver.specs.declared.target.DefinitionSort.{DefinitionSort}
use Rattle.module_resolver.specs.declared.file_names.Names.{Names}
use Rattle.module_resolver.specs.LookUp.{sort_of}
use Rattle.module_resolver.specs.NamesOf.{names_of}
use Rattle.const_eval.specs.declared.consts.Consts.{Consts}
use Rattle.draft_rows.specs.declared.counts.Counts.{Counts}
use Rattle.kind_scope.specs.Scopes.{around}
use Rattle.draft_rows.specs.RowCounts.{definitions_at, rows_of, rows_before, no_rows}
use Rattle.draft_rows.specs.Drafts.{draft_of}
use Rattle.schema_laws.specs.Passed.{IsPassed}
use Rattle.schema_laws.specs.Kept.{all_definitions, HasAll}
use Rattle.schema_laws.proofs.Among.{IsAmong}
use Rattle.schema_laws.proofs.Rowed.{defined_as, has_row}
use Rattle.schema_laws.proofs.QuietFiles.{all_quiet, uses_at}
use Rattle.schema_laws.proofs.NothingLost.{IsKept, typed_members, nothing_lost}
use Rattle.schema_laws.proofs.ConstsHaveRows.{found_file, const_rows}
use Rattle.schema_laws.proofs.AllKept.{item_whole, files_whole}

-- each definition that a name means has rows before it
rows_there : (files : List NamedFile) (order : List ℕ) (consts : Consts) → IsPassed files order (names_of files order) consts
    → (file place : ℕ) (sort : DefinitionSort) → sort_of (names_of files order).files (targets.Definition file place) ≡ Some sort
    → (counts : Counts) × (rows_before (rows_of files order) file place ≡ Some counts)
rows_there files order consts passed file place sort e =
    has_row files order file place sort passed.ordered.is (defined_as files order file place sort e)

-- each field, each field of a union and each parameter has a kind
kept_here : (files : List NamedFile) (order : List ℕ) (consts : Consts) → IsPassed files order (names_of files order) consts → (number : ℕ) (d : Defined)
    → IsAmong (definitions_at files number) d
    → AllByRecursion (IsKept (rows_of files order) (around (names_of files order).files consts number (Some d.full))) (typed_members d.item)
kept_here files order consts passed number d among =
    let names = (names_of files order).files in
    let there = found_file files number d among in
    let quiet = all_quiet files order consts passed in
    nothing_lost (rows_of files order) names consts number d (rows_there files order consts passed)
    (uses_at names number (definitions_of there.0.tree) d (quiet.uses number there.0 there.1) there.2) (quiet.kinds number there.0 there.1 d there.2)

has_all_here : (files : List NamedFile) (order : List ℕ) (consts : Consts) → IsPassed files order (names_of files order) consts
    → HasAll (all_definitions files order) (draft_of (names_of files order).files consts files order)
has_all_here files order consts passed =
    let names = (names_of files order).files in
    let quiet = all_quiet files order consts passed in
    files_whole (rows_of files order) names consts files order
    (λ number counts d among.
    let there = found_file files number d among in
    item_whole (rows_of files order) (around names consts number d.enclosing) counts d.full d.attributes d.item
    (quiet.kinds number there.0 there.1 d there.2) (kept_here files order consts passed number d among)
    (λ c is. ap is_some (const_rows files order (names_of files order) consts passed (rows_of files order) number d c d.full among is).is))
    no_rows

-- the tables have all fields, all parameters and all constants
pub has_all : (files : List NamedFile) (order : List ℕ) (names : Names) (consts : Consts) → IsPassed files order names consts
    → HasAll (all_definitions files order) (draft_of names.files consts files order)
has_all files order names consts passed =
    subst (λ (all : Names). HasAll (all_definitions files order) (draft_of all.files consts files order)) (sym passed.named.are)
    (has_all_here files order consts (subst (λ (all : Names). IsPassed files order all consts) passed.named.are passed))
