-- With any layout of the structs the kinds, the full names and the numbers of rows are those of the tables.
use Rattle.std.proofs.Common.{◌≡◌, ◌+◌, ℕ, List, [], ◌∷◌, ◌++◌, map, length, refl, sym, ◌∙◌, ap}
use Rattle.std.specs.Prelude.{true, not, ◌==◌, if◌then◌else◌}
use Rattle.std.specs.List.{list_all, list_any, flat_map}
use Rattle.std.specs.Cmp.Derive.{both_true}
use Rattle.std.proofs.lemmas.List.{length-map}
use Rattle.mj_base.specs.Texts.{are_distinct}
use Rattle.mj_schema.specs.KindTrees.{KindTree}
use Rattle.mj_schema.specs.Layout.{kind_of, draft_field, draft_of}
use Rattle.mj_schema.specs.declared.rows.ConstRow.{ConstRow}
use Rattle.mj_schema.specs.declared.rows.DraftField.{DraftField}
use Rattle.mj_schema.specs.declared.rows.DraftStruct.{DraftStruct}
use Rattle.mj_schema.specs.declared.rows.EnumRow.{EnumRow}
use Rattle.mj_schema.specs.declared.rows.FieldRow.{FieldRow}
use Rattle.mj_schema.specs.declared.rows.InterfaceRow.{InterfaceRow}
use Rattle.mj_schema.specs.declared.rows.StructRow.{StructRow}
use Rattle.mj_schema.specs.declared.rows.UnionRow.{UnionRow}
use Rattle.mj_schema.specs.Parts.{has_flag}
use Rattle.mj_schema.specs.WellFormed.{RowCounts, are_within, has_structs, is_row, is_allowed, structs_of_methods, named_structs, other_kinds, all_kinds}
use Rattle.mj_schema.specs.WellFormed.{all_names, counts_of, is_well_formed}
use Rattle.draft_rows.specs.declared.draft.Draft.{Draft}
use Rattle.schema_laws.specs.Whole.{IsWhole}
use Rattle.schema_laws.proofs.Tables.{draft_kinds, named_drafts, draft_names, draft_counts}
use Rattle.schema_laws.proofs.Members.{HaveMembers}

-- kinds

field_kinds : (fields : List FieldRow) → map kind_of fields ≡ map (λ (f : DraftField). f.kind) (map draft_field fields)
field_kinds [] = refl
field_kinds (field ∷ fields) = ap (λ (kinds : List KindTree). field.kind ∷ kinds) (field_kinds fields)

abbrev kinds_of_drafts : List DraftStruct → List KindTree
kinds_of_drafts structs = flat_map (λ (row : DraftStruct). map (λ (f : DraftField). f.kind) row.fields) structs

struct_kinds : (structs : List StructRow) → flat_map (λ (row : StructRow). map kind_of row.fields) structs ≡ kinds_of_drafts (map draft_of structs)
struct_kinds [] = refl
struct_kinds (row ∷ rows) =
    ap (λ (kinds : List KindTree). kinds ++ flat_map (λ (r : StructRow). map kind_of r.fields) rows) (field_kinds row.fields)
    ∙ ap (λ (kinds : List KindTree). map (λ (f : DraftField). f.kind) (map draft_field row.fields) ++ kinds) (struct_kinds rows)

pub same_kinds : (structs : List StructRow) (draft : Draft) → map draft_of structs ≡ draft.structs
    → all_kinds structs draft.unions draft.consts ≡ draft_kinds draft
same_kinds structs draft e =
    ap (λ (kinds : List KindTree). kinds ++ other_kinds draft.unions draft.consts) (struct_kinds structs ∙ ap kinds_of_drafts e)

-- full names

struct_names : (methods : List ℕ) (number : ℕ) (structs : List StructRow)
    → named_structs methods number structs ≡ named_drafts methods number (map draft_of structs)
struct_names methods number [] = refl
struct_names methods number (row ∷ rows) =
    ap (λ (names : List (List ℕ)). (if list_any (λ (other : ℕ). number == other) methods then [] else row.name ∷ []) ++ names)
    (struct_names methods (number + 1) rows)

pub same_names : (structs : List StructRow) (draft : Draft) → map draft_of structs ≡ draft.structs
    → all_names structs draft.unions draft.enums draft.interfaces draft.consts ≡ draft_names draft
same_names structs draft e =
    ap (λ (names : List (List ℕ)).
    names
    ++ (map (λ (row : UnionRow). row.name) draft.unions
    ++ (map (λ (row : EnumRow). row.name) draft.enums
    ++ (map (λ (row : InterfaceRow). row.name) draft.interfaces ++ map (λ (row : ConstRow). row.name) draft.consts))))
    (struct_names (structs_of_methods draft.interfaces) 0 structs ∙ ap (named_drafts (structs_of_methods draft.interfaces) 0) e)

-- numbers

pub same_length : (structs : List StructRow) (draft : Draft) → map draft_of structs ≡ draft.structs → length structs ≡ length draft.structs
same_length structs draft e = sym (length-map structs draft_of) ∙ ap length e

pub same_counts : (structs : List StructRow) (draft : Draft) → map draft_of structs ≡ draft.structs
    → counts_of structs draft.unions draft.enums draft.interfaces draft.consts ≡ draft_counts draft
same_counts structs draft e = ap (λ (n : ℕ). record (draft_counts draft) { structs = n }) (same_length structs draft e)

-- the whole

-- what holds of kinds, numbers and full names of tables
pub record AreSound (draft : Draft) : Type 0 where
  pub within : list_all (are_within (draft_counts draft)) (draft_kinds draft) ≡ true
  pub methods : list_all (λ (row : InterfaceRow). list_all (has_structs (length draft.structs)) row.methods) draft.interfaces ≡ true
  pub order : list_all (is_row (draft_counts draft)) draft.order ≡ true
  pub allowed : list_all is_allowed (draft_kinds draft) ≡ true
  pub flags : list_all (λ (kind : KindTree). not (has_flag kind)) (other_kinds draft.unions draft.consts) ≡ true
  pub names : are_distinct (draft_names draft) ≡ true

pub well_formed : (draft : Draft) → HaveMembers draft → AreSound draft → (structs : List StructRow) → map draft_of structs ≡ draft.structs
    → is_well_formed structs draft.unions draft.enums draft.interfaces draft.consts draft.order ≡ true
well_formed draft have sound structs e =
    let counts = same_counts structs draft e in
    let kinds = same_kinds structs draft e in
    let within =
    ap (λ (c : RowCounts). list_all (are_within c) (all_kinds structs draft.unions draft.consts)) counts
    ∙ (ap (list_all (are_within (draft_counts draft))) kinds ∙ sound.within) in
    let methods =
    ap (λ (n : ℕ). list_all (λ (row : InterfaceRow). list_all (has_structs n) row.methods) draft.interfaces) (same_length structs draft e) ∙ sound.methods in
    let order = ap (λ (c : RowCounts). list_all (is_row c) draft.order) counts ∙ sound.order in
    let allowed = both_true (ap (list_all is_allowed) kinds ∙ sound.allowed) sound.flags in
    let names = ap are_distinct (same_names structs draft e) ∙ sound.names in
    both_true within
    (both_true methods
    (both_true order (both_true allowed (both_true have.unions (both_true have.interfaces (both_true have.enums names))))))

pub whole : (draft : Draft) → HaveMembers draft → AreSound draft → IsWhole draft
whole draft have sound = record { structs = have.structs; well_formed = well_formed draft have sound }
