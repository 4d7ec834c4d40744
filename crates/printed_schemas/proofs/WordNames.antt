-- Names as compiled files have them: words that differ, and those of methods have no dot.
use Rattle.std.specs.Prelude.{◌≡◌, ℕ, ◌==◌, ◌&&◌, Bool, false, true, not, List, [], ◌∷◌, map}
use Rattle.std.specs.List.{list_all, AllByRecursion}
use Rattle.mj_base.specs.Texts.{are_distinct}
use Rattle.mj_schema.specs.WellFormed.{has_distinct_ordinals}
use Rattle.mj_schema.specs.declared.rows.InterfaceRow.{InterfaceRow}
use Rattle.mj_schema.specs.declared.rows.MethodRow.{MethodRow}
use Rattle.mj_schema.specs.declared.schema.Schema.{Schema}
use Rattle.line_parts.specs.Names.{is_word}
use Rattle.line_parts.specs.Signs.{blank, dot}

-- no blank
abbrev pub is_not_blank : ℕ → Bool
is_not_blank b = not (b == blank)

-- neither a blank nor a dot
abbrev pub is_plain_byte : ℕ → Bool
is_plain_byte b = is_not_blank b && not (b == dot)

-- a word without a dot
abbrev pub is_plain : List ℕ → Bool
is_plain [] = false
is_plain (b ∷ bs) = list_all is_plain_byte (b ∷ bs)

-- the full names of interfaces
abbrev pub interface_names : List InterfaceRow → List (List ℕ)
interface_names rows = map (λ (row : InterfaceRow). row.name) rows

-- the names of methods
abbrev pub method_names : List MethodRow → List (List ℕ)
method_names methods = map (λ (method : MethodRow). method.name) methods

-- the methods of an interface have words without a dot, and what tells them apart stands once
pub record HasPlainMethods (row : InterfaceRow) : Type 0 where
  pub plain : list_all is_plain (method_names row.methods) ≡ true
  pub distinct : are_distinct (method_names row.methods) ≡ true
  pub ordinals : has_distinct_ordinals row ≡ true

-- each interface has a word of its own, and so has each of its methods
pub record HasPlainNames (schema : Schema) : Type 0 where
  pub words : list_all is_word (interface_names schema.interfaces) ≡ true
  pub distinct : are_distinct (interface_names schema.interfaces) ≡ true
  pub methods : AllByRecursion HasPlainMethods schema.interfaces
