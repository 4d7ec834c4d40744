-- A newer schema with its definitions by their names, as the code keeps it.
use Rattle.std.specs.Prelude.{◌≡◌, ℕ, List, [], Option}
use Rattle.mj_schema.specs.declared.rows.RowSort.{RowSort}
use Rattle.mj_schema.specs.declared.rows.RowSort.TheVariants as sorts
use Rattle.compat_model.specs.Verdicts.{names_of}
use Rattle.compat_check.specs.declared.named_schema.NamedSchema.{NamedSchema}

-- the names of a sort, of those of structs, unions, enums and interfaces
abbrev pub names_by : (structs unions enums interfaces : List (Option (List ℕ))) → RowSort → List (Option (List ℕ))
names_by structs unions enums interfaces sorts.Struct = structs
names_by structs unions enums interfaces sorts.Union = unions
names_by structs unions enums interfaces sorts.Enum = enums
names_by structs unions enums interfaces sorts.Interface = interfaces
names_by structs unions enums interfaces sorts.Const = []

-- the names of a sort, as the tables have them
abbrev pub names_in : NamedSchema → RowSort → List (Option (List ℕ))
names_in named sort = names_by named.structs named.unions named.enums named.interfaces sort

-- the tables have the names of the schema's definitions
abbrev pub IsNamed : NamedSchema → Type 0
IsNamed named = (sort : RowSort) → names_in named sort ≡ names_of named.schema.now sort
