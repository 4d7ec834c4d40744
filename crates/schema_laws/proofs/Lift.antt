-- What holds of the tables of each definition holds of those of all files.
use Rattle.std.proofs.Common.{ℕ, List, [], ◌∷◌, refl, inl, inr}
use Rattle.std.specs.Prelude.{None}
use Rattle.mojom_files.specs.declared.named_file.NamedFile.{NamedFile}
use Rattle.mojom_files.specs.Definitions.{Defined}
use Rattle.module_resolver.specs.declared.file_names.FileNames.{FileNames}
use Rattle.const_eval.specs.declared.consts.Consts.{Consts}
use Rattle.draft_rows.specs.declared.counts.Counts.{Counts}
use Rattle.draft_rows.specs.declared.counts.FileRows.{FileRows}
use Rattle.draft_rows.specs.declared.draft.Draft.{Draft}
use Rattle.kind_scope.specs.Scopes.{Scope, around}
use Rattle.draft_rows.specs.RowCounts.{after, after_all, definitions_at}
use Rattle.draft_rows.specs.Drafts.{empty, join, draft_of_definition, draft_of_all, draft_from}
use Rattle.schema_laws.proofs.Among.{IsAmong}

-- it holds of tables joined where it holds of each
abbrev pub IsJoined : (Draft → Type 0) → Type 0
IsJoined Good = (one two : Draft) → Good one → Good two → Good (join one two)

-- the definitions of a file
pub lift_all : (Good : Draft → Type 0) (rows : List FileRows) (scope : Scope) (ds : List Defined) → Good empty → IsJoined Good
    → ((counts : Counts) (d : Defined) → IsAmong ds d → Good (draft_of_definition rows scope counts d))
    → (counts : Counts) → Good (draft_of_all rows scope counts ds)
lift_all Good rows scope [] none joined each counts = none
lift_all Good rows scope (d ∷ ds) none joined each counts =
    joined (draft_of_definition rows scope counts d) (draft_of_all rows scope (after counts d.item) ds) (each counts d (inl refl))
    (lift_all Good rows scope ds none joined (λ c e among. each c e (inr among)) (after counts d.item))

-- files
pub lift : (Good : Draft → Type 0) (rows : List FileRows) (names : List FileNames) (consts : Consts) (files : List NamedFile) (order : List ℕ)
    → Good empty → IsJoined Good
    → ((number : ℕ) → IsAmong order number → (counts : Counts) (d : Defined) → IsAmong (definitions_at files number) d
    → Good (draft_of_definition rows (around names consts number None) counts d))
    → (counts : Counts) → Good (draft_from rows names consts files counts order)
lift Good rows names consts files [] none joined each counts = none
lift Good rows names consts files (number ∷ numbers) none joined each counts =
    let scope = around names consts number None in
    let here = definitions_at files number in
    joined (draft_of_all rows scope counts here) (draft_from rows names consts files (after_all counts here) numbers)
    (lift_all Good rows scope here none joined (λ c d among. each number (inl refl) c d among) counts)
    (lift Good rows names consts files numbers none joined (λ n among. each n (inr among)) (after_all counts here))
