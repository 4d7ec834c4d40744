-- The text of attributes.
use Rattle.std.specs.Prelude.{ℕ, List, [], ◌∷◌, ◌++◌, codes, Option, Some, None}
use Rattle.std.specs.List.{join_by}
use Rattle.mojom_ast.specs.declared.names.Value.{Value}
use Rattle.mojom_ast.specs.declared.attributes.Attribute.{Attribute}
use Rattle.mojom_print.specs.Words.{value_text, indent}

-- =1, where the attribute has a value
abbrev pub given_text : Option Value → List ℕ
given_text None = []
given_text (Some v) = codes "=" ++ value_text v

-- A or B=1
abbrev pub attribute_text : Attribute → List ℕ
attribute_text a = a.name.text ++ given_text a.value

-- [A, B=1]
unfoldable pub bracketed_text : List Attribute → List ℕ
bracketed_text attributes = codes "[" ++ (join_by attribute_text (codes ", ") attributes ++ codes "]")

-- attributes on a line of their own; none have no line
abbrev pub attribute_line : ℕ → List Attribute → List ℕ
attribute_line depth [] = []
attribute_line depth (a ∷ more) = indent depth ++ (bracketed_text (a ∷ more) ++ codes "\n")

-- attributes before a parameter, and then a blank
abbrev pub attributes_before : List Attribute → List ℕ
attributes_before [] = []
attributes_before (a ∷ more) = bracketed_text (a ∷ more) ++ codes " "
