-- The kinds, the full names and the numbers of rows of tables whose fields have no places yet.
use Rattle.std.proofs.Common.{ℕ, ◌+◌, List, [], ◌∷◌, ◌++◌, map, length}
use Rattle.std.specs.Prelude.{◌==◌, if◌then◌else◌}
use Rattle.std.specs.List.{flat_map, list_any}
use Rattle.mj_schema.specs.KindTrees.{KindTree}
use Rattle.mj_schema.specs.declared.rows.ConstRow.{ConstRow}
use Rattle.mj_schema.specs.declared.rows.DraftField.{DraftField}
use Rattle.mj_schema.specs.declared.rows.DraftStruct.{DraftStruct}
use Rattle.mj_schema.specs.declared.rows.EnumRow.{EnumRow}
use Rattle.mj_schema.specs.declared.rows.InterfaceRow.{InterfaceRow}
use Rattle.mj_schema.specs.declared.rows.UnionRow.{UnionRow}
use Rattle.mj_schema.specs.WellFormed.{RowCounts, other_kinds, structs_of_methods}
use Rattle.draft_rows.specs.declared.draft.Draft.{Draft}

-- the kinds of all fields and constants
abbrev pub draft_kinds : Draft → List KindTree
draft_kinds draft =
    flat_map (λ (row : DraftStruct). map (λ (field : DraftField). field.kind) row.fields) draft.structs
    ++ other_kinds draft.unions draft.consts

-- the full names of structs, the first of which has this number, but for those of methods
abbrev pub named_drafts : List ℕ → ℕ → List DraftStruct → List (List ℕ)
named_drafts methods number [] = []
named_drafts methods number (row ∷ rows) =
    (if list_any (λ (other : ℕ). number == other) methods then [] else row.name ∷ []) ++ named_drafts methods (number + 1) rows

-- the full names of all rows, but for the structs of methods
abbrev pub draft_names : Draft → List (List ℕ)
draft_names draft =
    named_drafts (structs_of_methods draft.interfaces) 0 draft.structs
    ++ (map (λ (row : UnionRow). row.name) draft.unions
    ++ (map (λ (row : EnumRow). row.name) draft.enums
    ++ (map (λ (row : InterfaceRow). row.name) draft.interfaces ++ map (λ (row : ConstRow). row.name) draft.consts)))

-- how many rows the lists have
abbrev pub draft_counts : Draft → RowCounts
draft_counts draft = record {
  structs = length draft.structs;
  unions = length draft.unions;
  enums = length draft.enums;
  interfaces = length draft.interfaces;
  consts = length draft.consts;
}
