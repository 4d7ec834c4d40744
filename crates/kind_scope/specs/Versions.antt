-- The versions of members.
use Rattle.std.specs.Prelude.{ℕ, ℤ, pos, negsuc, List, find, Option, option_and_then}
use Rattle.std.specs.Option.{option_map_or}
use Rattle.mojom_ast.specs.declared.names.Value.{Value}
use Rattle.mojom_ast.specs.declared.attributes.Attribute.{Attribute}
use Rattle.name_refusals.specs.Uses.{is_min_version}
use Rattle.const_meanings.specs.Known.{Known, NumberValue}
use Rattle.kind_scope.specs.Scopes.{Scope, known_in}
use Rattle.kind_scope.specs.Members.{Member, held}

-- a number as a version: what is below 0 counts as 0
abbrev pub held_whole : ℤ → ℕ
held_whole (pos n) = held n
held_whole (negsuc n) = 0

-- a value as a version: what is no number counts as 0
abbrev pub version_of_known : Known → ℕ
version_of_known (NumberValue number) = held_whole number
version_of_known _ = 0

-- the value of the first `MinVersion`
abbrev pub min_version : List Attribute → Option Value
min_version attributes = option_and_then (λ (a : Attribute). a.value) (find is_min_version attributes)

-- the version since which a member is there
abbrev pub version_of : Scope → Member → ℕ
version_of scope member = option_map_or version_of_known (option_and_then (known_in scope) (min_version member.attributes)) 0
