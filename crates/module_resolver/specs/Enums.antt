-- The full names of enumerators.
use Rattle.std.specs.Prelude.{ℕ, List, map}
use Rattle.mj_base.specs.Names.{within}
use Rattle.module_resolver.specs.declared.enumerator_names.EnumNames.{EnumNames}

-- the full names of the enumerators of an enum
abbrev pub names_in_enum : EnumNames → List (List ℕ)
names_in_enum one = map (within one.outer) one.names
