-- Schemas by which what a version of a struct lacks reads as a value of its kind, and bytes.
use Rattle.std.specs.Prelude.{ℕ, ◌^◌, ◌<◌, List, All}
use Rattle.mj_schema.specs.declared.rows.FieldRow.{FieldRow}
use Rattle.mj_schema.specs.declared.rows.StructRow.{StructRow}
use Rattle.mj_schema.specs.declared.schema.Schema.{Schema}
use Rattle.wire_model.specs.Absent.{absent_field}
use Rattle.mj_schema.specs.Parts.{flag_place}
use Rattle.wire_model.specs.Depth.{IsOfKind}
use Rattle.wire_model.specs.Kinded.{OrNull}

-- what a field of a later version than 0 reads as where it is absent is a value of its kind, or null where the field has a flag; a field of
-- version 0 is never absent
abbrev pub IsFilled : Schema → FieldRow → Type 0
IsFilled schema field =
    let read = absent_field schema field.default field.kind in
    0 < field.min_version → OrNull (flag_place field.flag) read (IsOfKind schema field.kind read)

-- so it is with each field of each struct
pub record IsFilledSchema (schema : Schema) : Type 0 where
  pub structs : All (λ (row : StructRow). All (IsFilled schema) row.fields) schema.structs

-- each number is a byte
abbrev pub AreBytes : List ℕ → Type 0
AreBytes numbers = All (λ (n : ℕ). n < 2 ^ 8) numbers
