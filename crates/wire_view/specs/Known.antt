-- What a view of a struct keeps of it: its fields, and how many of them its version has.
use Rattle.std.specs.Prelude.{ℕ, List, [], Option, Some, None}
use Rattle.mj_schema.specs.declared.rows.FieldRow.{FieldRow}
use Rattle.mj_schema.specs.declared.rows.StructRow.{StructRow}
use Rattle.wire_model.specs.Rows.{row_for}

-- the fields of a struct, where there is one
abbrev pub fields_of : Option StructRow → List FieldRow
fields_of None = []
fields_of (Some row) = row.fields

-- how many of them a version has
abbrev pub known_of : Option StructRow → ℕ → ℕ
known_of None version = 0
known_of (Some row) version = (row_for row.versions version).fields
