-- The members of definitions that stand in lists: fields, methods and parameters, with their ordinals.
use Rattle.std.specs.Prelude.{ℕ, min, List, [], ◌∷◌, Option, Some, None, ◌==◌, nat_lt, if◌then◌else◌}
use Rattle.mojom_ast.specs.TypeTrees.{TypeTree}
use Rattle.mojom_ast.specs.declared.names.Identifier.{Identifier}
use Rattle.mojom_ast.specs.declared.names.Number.{Number}
use Rattle.mojom_ast.specs.declared.names.Value.{Value}
use Rattle.mojom_ast.specs.declared.attributes.Attribute.{Attribute}
use Rattle.mojom_ast.specs.declared.definitions.StructMember.{StructMember}
use Rattle.mojom_ast.specs.declared.definitions.StructItem.{StructItem}
use Rattle.mojom_ast.specs.declared.definitions.StructItem.TheVariants as struct_items
use Rattle.mojom_ast.specs.declared.definitions.UnionField.{UnionField}
use Rattle.mojom_ast.specs.declared.definitions.InterfaceMember.{InterfaceMember}
use Rattle.mojom_ast.specs.declared.definitions.InterfaceItem.{InterfaceItem}
use Rattle.mojom_ast.specs.declared.definitions.InterfaceItem.TheVariants as interface_items
use Rattle.mojom_ast.specs.declared.definitions.Parameter.{Parameter}
use Rattle.std.specs.List.{fold}
use Rattle.const_eval.specs.Ordinals.{NumberedAs, ordinal_by, numbered_by}

-- a member of a list: its identifier, the attributes before it, its type (a method has none), and its ordinal and its default where they
-- are written
pub record Member : Type 0 where
  pub name : Identifier
  pub attributes : List Attribute
  pub kind : Option TypeTree
  pub ordinal : Option Number
  pub default : Option Value

-- the field that a member of a struct is
abbrev pub field_in : List Attribute → StructItem → List Member
field_in attributes (struct_items.Field f) =
    record { name = f.name; attributes = attributes; kind = Some f.kind; ordinal = f.ordinal; default = f.default } ∷ []
field_in attributes (struct_items.Const c) = []
field_in attributes (struct_items.Enum e) = []

-- the field that a member of a struct is, with the attributes before it
abbrev pub field_of : StructMember → List Member
field_of member = field_in member.attributes member.item

-- a field of a union
abbrev pub union_field_of : UnionField → Member
union_field_of f = record { name = f.name; attributes = f.attributes; kind = Some f.kind; ordinal = f.ordinal; default = None }

-- a parameter
abbrev pub parameter_of : Parameter → Member
parameter_of p = record { name = p.name; attributes = p.attributes; kind = Some p.kind; ordinal = p.ordinal; default = None }

-- the method that a member of an interface is
abbrev pub method_in : List Attribute → InterfaceItem → List Member
method_in attributes (interface_items.Method m) =
    record { name = m.name; attributes = attributes; kind = None; ordinal = m.ordinal; default = None } ∷ []
method_in attributes (interface_items.Const c) = []
method_in attributes (interface_items.Enum e) = []

-- the method that a member of an interface is, with the attributes before it
abbrev pub method_of : InterfaceMember → List Member
method_of member = method_in member.attributes member.item

-- ordinals

-- a number as an unsigned integer of 32 bits: what is above counts as the greatest
abbrev pub held : ℕ → ℕ
held n = min n 4294967295

-- a member and its ordinal
abbrev pub Numbered : Type 0
Numbered = NumberedAs Member

-- the ordinal of a member: the one that is written, or else the next
abbrev pub ordinal_at : ℕ → Option Number → ℕ
ordinal_at next written = ordinal_by held next written

-- members with their ordinals, where the first has this one if none is written: each other has the one after that of the member before
abbrev pub numbered_from : ℕ → List Member → List Numbered
numbered_from next members = numbered_by held (λ (m : Member). m.ordinal) next members

-- the members of a list with their ordinals, the first of which is 0
abbrev pub numbered : List Member → List Numbered
numbered members = numbered_from 0 members

-- one among others along a number of theirs: before the first with a greater one, and in the place of one with its own
abbrev pub place : {A : Type 0} → (A → ℕ) → List A → A → List A
place number [] one = one ∷ []
place number (other ∷ others) one =
    if nat_lt (number one) (number other) then one ∷ other ∷ others
    else (if number one == number other then one ∷ others else other ∷ place number others one)

-- these along a number of theirs
abbrev pub along : {A : Type 0} → (A → ℕ) → List A → List A
along number ones = fold (place number) [] ones

-- the members along their ordinals
abbrev pub along_ordinals : List Numbered → List Numbered
along_ordinals members = along (λ (one : Numbered). one.ordinal) members
