-- The structs of methods, and which definitions names mean.
use Rattle.std.specs.Prelude.{ℕ, ◌==◌, Bool, List, ◌∷◌}
use Rattle.std.specs.List.{flat_map, list_any}
use Rattle.std.specs.Option.{option_to_list}
use Rattle.mj_schema.specs.declared.rows.InterfaceRow.{InterfaceRow}
use Rattle.mj_schema.specs.declared.rows.MethodRow.{MethodRow}

-- the structs that a method has for its parameters and its response
abbrev pub method_structs : MethodRow → List ℕ
method_structs m = m.request ∷ option_to_list m.response

-- those that the methods of an interface have
abbrev pub structs_in : InterfaceRow → List ℕ
structs_in row = flat_map method_structs row.methods

-- whether a number stands among these
abbrev pub is_among : List ℕ → ℕ → Bool
is_among numbers number = list_any (λ (other : ℕ). other == number) numbers
