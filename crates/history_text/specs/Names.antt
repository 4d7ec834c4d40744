-- Interfaces and methods by the numbers that events have; where the schema has none, the name is empty.
use Rattle.std.specs.Prelude.{ℕ, List, [], ◌++◌, codes, slice_get, unwrap_or}
use Rattle.std.specs.Option.{option_map}
use Rattle.mj_schema.specs.declared.schema.Schema.{Schema}
use Rattle.mj_schema.specs.declared.rows.InterfaceRow.{InterfaceRow}
use Rattle.mj_schema.specs.declared.rows.MethodRow.{MethodRow}
use Rattle.mj_schema.specs.Lookups.{method_in}

-- the full name of an interface
abbrev pub interface_name : Schema → ℕ → List ℕ
interface_name schema interface = unwrap_or (option_map (λ (row : InterfaceRow). row.name) (slice_get schema.interfaces interface)) []

-- a method's name within its interface
abbrev pub method_name : Schema → ℕ → ℕ → List ℕ
method_name schema interface ordinal = unwrap_or (option_map (λ (method : MethodRow). method.name) (method_in schema.interfaces interface ordinal)) []

-- a method as `INTERFACE.METHOD`
abbrev pub method_text : Schema → ℕ → ℕ → List ℕ
method_text schema interface ordinal = interface_name schema interface ++ (codes "." ++ method_name schema interface ordinal)
