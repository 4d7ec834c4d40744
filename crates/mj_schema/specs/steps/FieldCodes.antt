-- The fields of a union as pairs, as Rattle asks it of a type that contracts see as their list.
use Rattle.std.specs.Prelude.{ℕ, List, refl}
use Rattle.std.specs.Coded.{Coded, code_by, coded_list, coded×, coded_ℕ}
use Rattle.mj_schema.specs.KindTrees.{KindTree}
use Rattle.mj_schema.specs.declared.rows.UnionFieldRow.{UnionFieldRow}

-- the code of a field: its name, its tag and its kind
abbrev pub field_code : Coded KindTree → Coded UnionFieldRow
field_code kinds =
    code_by (List ℕ × (ℕ × KindTree)) (coded× (coded_list coded_ℕ) (coded× coded_ℕ kinds)) (λ field. (field.name, (field.tag, field.kind)))
    (λ p. record { name = p.0; tag = p.1.0; kind = p.1.1 }) (λ _. refl)

-- the code of a list of them
abbrev pub fields_code : Coded KindTree → Coded (List UnionFieldRow)
fields_code kinds = coded_list (field_code kinds)
