-- Targets by the names of interfaces and methods.
use Rattle.std.specs.Prelude.{ℕ, List, Option, option_and_then}
use Rattle.std.specs.Option.{option_map}
use Rattle.mj_schema.specs.Lookups.{interface_named, method_called}
use Rattle.mj_schema.specs.declared.rows.MethodRow.{MethodRow}
use Rattle.mj_schema.specs.declared.schema.Schema.{Schema}
use Rattle.wire_model.specs.Expected.{struct_of}
use Rattle.wire_model.specs.declared.target.MessageSide.{MessageSide}
use Rattle.wire_model.specs.declared.target.Target.{Target}

-- the messages of one side of a method, by numbers
abbrev pub target_at : ℕ → ℕ → MessageSide → Target
target_at interface method side = record { interface = interface; method = method; side = side }

-- the messages of a method of the interface of this number, where it has a struct for the side
abbrev pub target_of : ℕ → MessageSide → MethodRow → Option Target
target_of interface side method = option_map (λ (number : ℕ). target_at interface method.ordinal side) (struct_of side method)

-- the messages of the method of this name in the interface of this full name, where there is one that has a struct for the side
abbrev pub target_named : Schema → List ℕ → List ℕ → MessageSide → Option Target
target_named schema interface method side =
    option_and_then (λ (number : ℕ). option_and_then (target_of number side) (method_called schema.interfaces number method))
    (interface_named schema.interfaces interface)
