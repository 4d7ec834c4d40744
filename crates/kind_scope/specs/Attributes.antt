-- Attributes that stand before a definition or a member.
use Rattle.std.specs.Prelude.{ℕ, Bool, codes, List}
use Rattle.std.specs.List.{list_any}
use Rattle.std.specs.Str.{bytes_eq}
use Rattle.mojom_ast.specs.declared.attributes.Attribute.{Attribute}
use Rattle.mojom_ast.specs.declared.definitions.Enumerator.{Enumerator}

-- the attribute stands there, whatever its value
abbrev pub has_attribute : List ℕ → List Attribute → Bool
has_attribute name attributes = list_any (λ (a : Attribute). bytes_eq a.name.text name) attributes

-- an enumerator has `[Default]`
abbrev pub is_default : Enumerator → Bool
is_default e = has_attribute (codes "Default") e.attributes
