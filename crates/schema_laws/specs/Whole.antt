-- What holds of tables before the fields of structs have places.
use Rattle.std.specs.Prelude.{◌≡◌, ◌≤◌, List, length, map, IsTrue}
use Rattle.std.specs.List.{AllByRecursion}
use Rattle.mj_base.specs.declared.limits.TheConstants.{MAX_FIELDS}
use Rattle.mj_schema.specs.declared.rows.DraftField.{DraftField}
use Rattle.mj_schema.specs.declared.rows.DraftStruct.{DraftStruct}
use Rattle.mj_schema.specs.declared.rows.StructRow.{StructRow}
use Rattle.mj_schema.specs.Layout.{draft_of, never_fall, are_small}
use Rattle.mj_schema.specs.WellFormed.{is_well_formed}
use Rattle.draft_rows.specs.declared.draft.Draft.{Draft}

-- the fields of a struct can be laid out: there are few, and their versions never fall and have 32 bits
pub record CanBeLaidOut (row : DraftStruct) : Type 0 where
  pub few : length row.fields ≤ MAX_FIELDS
  pub rising : IsTrue (never_fall 0 (map (λ (field : DraftField). field.min_version) row.fields))
  pub small : IsTrue (are_small (map (λ (field : DraftField). field.min_version) row.fields))

-- the structs can be laid out, and with any layout of theirs the rows are well formed
pub record IsWhole (draft : Draft) : Type 0 where
  pub structs : AllByRecursion CanBeLaidOut draft.structs
  pub well_formed :
      (structs : List StructRow) → map draft_of structs ≡ draft.structs
      → IsTrue (is_well_formed structs draft.unions draft.enums draft.interfaces draft.consts draft.order)
