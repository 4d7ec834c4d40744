-- That the numbers by which kinds name definitions are those of their rows.
use Rattle.std.specs.Prelude.{ℕ, ◌≡◌, List, slice_get, Some}
use Rattle.mojom_ast.specs.declared.definitions.DefinitionItem.{DefinitionItem}
use Rattle.mojom_ast.specs.declared.definitions.DefinitionItem.TheVariants as items
use Rattle.mojom_files.specs.declared.named_file.NamedFile.{NamedFile}
use Rattle.mojom_files.specs.Definitions.{Defined}
use Rattle.mj_schema.specs.declared.rows.DraftStruct.{DraftStruct}
use Rattle.mj_schema.specs.declared.rows.UnionRow.{UnionRow}
use Rattle.mj_schema.specs.declared.rows.EnumRow.{EnumRow}
use Rattle.mj_schema.specs.declared.rows.InterfaceRow.{InterfaceRow}
use Rattle.draft_rows.specs.declared.counts.Counts.{Counts}
use Rattle.draft_rows.specs.declared.counts.FileRows.{FileRows}
use Rattle.draft_rows.specs.declared.draft.Draft.{Draft}
use Rattle.draft_rows.specs.RowCounts.{definitions_at, rows_before}

-- the row of a number in a table has this full name
pub record HasName {A : Type 0} (name : A → List ℕ) (table : List A) (full : List ℕ) (number : ℕ) : Type 0 where
  pub row : A
  pub there : slice_get table number ≡ Some row
  pub is : name row ≡ full

-- a definition of this full name, before which so many rows stand, has its row behind them in the table of its sort
abbrev pub HasOwnRow : Draft → Counts → List ℕ → DefinitionItem → Type 0
HasOwnRow draft before full (items.Struct item) = HasName (λ (row : DraftStruct). row.name) draft.structs full before.structs
HasOwnRow draft before full (items.Union item) = HasName (λ (row : UnionRow). row.name) draft.unions full before.unions
HasOwnRow draft before full (items.Enum item) = HasName (λ (row : EnumRow). row.name) draft.enums full before.enums
HasOwnRow draft before full (items.Interface item) = HasName (λ (row : InterfaceRow). row.name) draft.interfaces full before.interfaces
HasOwnRow draft before full (items.Const item) = Unit {0}

-- the same of each definition of files before which so many rows stand
abbrev pub HaveOwnRows : List NamedFile → List FileRows → Draft → Type 0
HaveOwnRows files rows draft =
    (file number : ℕ) (before : Counts) (d : Defined) → rows_before rows file number ≡ Some before
    → slice_get (definitions_at files file) number ≡ Some d → HasOwnRow draft before d.full d.item
