-- The interfaces and methods that words name.
use Rattle.std.specs.Prelude.{ℕ, zero, suc, ◌+◌, ◌==◌, List, [], length, take, drop, slice_index, Option, Some, None, slice_get, find}
use Rattle.std.specs.Prelude.{option_and_then, option_map, if◌then◌else◌}
use Rattle.std.specs.Option.{option_map_or}
use Rattle.std.specs.Str.{bytes_eq}
use Rattle.mj_schema.specs.Lookups.{interface_named}
use Rattle.mj_schema.specs.declared.rows.InterfaceRow.{InterfaceRow}
use Rattle.mj_schema.specs.declared.rows.MethodRow.{MethodRow}
use Rattle.mj_schema.specs.declared.schema.Schema.{Schema}
use Rattle.wire_model.specs.declared.target.MessageSide.{MessageSide}
use Rattle.wire_model.specs.declared.target.Target.{Target}
use Rattle.wire_encoder.specs.Prepared.{parameters_of}

-- the byte between the name of an interface and that of a method
abbrev pub dot : ℕ
dot = 46

-- the place of the last dot, where one byte more is looked at
abbrev pub later_dot : List ℕ → ℕ → Option ℕ → Option ℕ
later_dot word place before = if slice_index word place == dot then Some place else before

-- the place of the last dot among the first bytes of a word
abbrev pub last_dot : List ℕ → ℕ → Option ℕ
last_dot word zero = None
last_dot word (suc count) = later_dot word count (last_dot word count)

-- all before the last dot of a word, and the rest
abbrev pub split_word : List ℕ → Option (List ℕ × List ℕ)
split_word word = option_map (λ (place : ℕ). (take place word, drop (place + 1) word)) (last_dot word (length word))

-- the methods of the interface of a number
abbrev pub methods_of : Schema → ℕ → List MethodRow
methods_of schema interface = option_map_or (λ (row : InterfaceRow). row.methods) (slice_get schema.interfaces interface) []

-- the method of a name among these
abbrev pub method_named : List MethodRow → List ℕ → Option MethodRow
method_named methods name = find (λ (method : MethodRow). bytes_eq method.name name) methods

-- a message of a method, by the method's ordinal
abbrev pub target_for : ℕ → MessageSide → MethodRow → Target
target_for interface side method = record { interface = interface; method = method.ordinal; side = side }

-- a message of the method of a name in the interface of a number
abbrev pub target_in : Schema → MessageSide → List ℕ → ℕ → Option Target
target_in schema side name interface = option_map (target_for interface side) (method_named (methods_of schema interface) name)

-- the full name of an interface and the name of a method
abbrev pub target_between : Schema → MessageSide → List ℕ × List ℕ → Option Target
target_between schema side (interface, method) = option_and_then (target_in schema side method) (interface_named schema.interfaces interface)

-- what a word names: the interface is all before its last dot, the method the rest
abbrev pub target_named : Schema → MessageSide → List ℕ → Option Target
target_named schema side word = option_and_then (target_between schema side) (split_word word)

-- with the number of the struct of its parameters, which a response that the method lacks has not
abbrev pub with_parameters : Schema → Target → Option (Target × ℕ)
with_parameters schema target = option_map (λ (number : ℕ). (target, number)) (parameters_of schema target)

-- the message that a word names, with the struct of its parameters
abbrev pub message_named : Schema → MessageSide → List ℕ → Option (Target × ℕ)
message_named schema side word = option_and_then (with_parameters schema) (target_named schema side word)
