-- The names that a definition uses, and what each may mean.
use Rattle.std.specs.Prelude.{ℕ, Bool, false, List, [], ◌∷◌, ◌++◌, codes, if◌then◌else◌, Option, Some, None, is_some}
use Rattle.std.specs.List.{flat_map}
use Rattle.std.specs.Str.{bytes_eq}
use Rattle.mojom_ast.specs.TypeTrees.{BaseTree, Named, ArrayOf, MapOf, HandleOf, PendingOf}
use Rattle.mojom_ast.specs.declared.names.Identifier.{Identifier}
use Rattle.mojom_ast.specs.declared.names.Value.{Value}
use Rattle.mojom_ast.specs.declared.names.Value.TheVariants as values
use Rattle.mojom_ast.specs.declared.attributes.Attribute.{Attribute}
use Rattle.mojom_ast.specs.declared.definitions.DefinitionItem.{DefinitionItem}
use Rattle.mojom_ast.specs.declared.definitions.DefinitionItem.TheVariants as items
use Rattle.mojom_ast.specs.declared.definitions.StructMember.{StructMember}
use Rattle.mojom_ast.specs.declared.definitions.StructItem.{StructItem}
use Rattle.mojom_ast.specs.declared.definitions.StructItem.TheVariants as struct_items
use Rattle.mojom_ast.specs.declared.definitions.UnionField.{UnionField}
use Rattle.mojom_ast.specs.declared.definitions.Enumerator.{Enumerator}
use Rattle.mojom_ast.specs.declared.definitions.InterfaceMember.{InterfaceMember}
use Rattle.mojom_ast.specs.declared.definitions.InterfaceItem.{InterfaceItem}
use Rattle.mojom_ast.specs.declared.definitions.InterfaceItem.TheVariants as interface_items
use Rattle.mojom_ast.specs.declared.definitions.Parameter.{Parameter}
use Rattle.mojom_files.specs.Basics.{basic_of}
use Rattle.mojom_files.specs.Definitions.{Defined}
use Rattle.name_refusals.specs.declared.uses.Wanted.{Wanted}
use Rattle.name_refusals.specs.declared.uses.Wanted.TheVariants as wants

-- a name that is used: the full name of the definition around its place where there is one, its identifiers, and what it has to mean
pub record Use : Type 0 where
  pub enclosing : Option (List ℕ)
  pub parts : List Identifier
  pub wanted : Wanted

-- the name of a basic kind, which needs no look-up
abbrev pub is_basic : List Identifier → Bool
is_basic (part ∷ []) = is_some (basic_of part.text)
is_basic _ = false

-- the names that a type uses
abbrev pub uses_in_type : Option (List ℕ) → BaseTree → List Use
uses_in_type enclosing (Named name) =
    if is_basic name.parts then [] else record { enclosing = enclosing; parts = name.parts; wanted = wants.Kind } ∷ []
uses_in_type enclosing (ArrayOf of nullable count) = uses_in_type enclosing of
uses_in_type enclosing (MapOf key of_key value of_value) = uses_in_type enclosing key ++ uses_in_type enclosing value
uses_in_type enclosing (HandleOf sort) = []
uses_in_type enclosing (PendingOf sort interface) = record { enclosing = enclosing; parts = interface.parts; wanted = wants.Interface } ∷ []

-- the name that a value uses
abbrev pub uses_in_value : Option (List ℕ) → Value → List Use
uses_in_value enclosing (values.Name name) = record { enclosing = enclosing; parts = name.parts; wanted = wants.Value } ∷ []
uses_in_value enclosing _ = []

-- the name that a value uses, where there is a value
abbrev pub uses_in_option : Option (List ℕ) → Option Value → List Use
uses_in_option enclosing None = []
uses_in_option enclosing (Some value) = uses_in_value enclosing value

-- the attribute that says since which version its member is there
abbrev pub is_min_version : Attribute → Bool
is_min_version attribute = bytes_eq attribute.name.text (codes "MinVersion")

-- of attributes the values of `MinVersion` alone are looked up
abbrev pub uses_in_attribute : Option (List ℕ) → Attribute → List Use
uses_in_attribute enclosing attribute = if is_min_version attribute then uses_in_option enclosing attribute.value else []

-- the names that attributes use
abbrev pub uses_in_attributes : Option (List ℕ) → List Attribute → List Use
uses_in_attributes enclosing attributes = flat_map (uses_in_attribute enclosing) attributes

-- the names that a field of a struct uses; constants and enums in a struct are definitions of their own
abbrev pub uses_in_field : Option (List ℕ) → List Attribute → StructItem → List Use
uses_in_field enclosing attributes (struct_items.Field f) =
    uses_in_attributes enclosing attributes ++ (uses_in_type enclosing f.kind.base ++ uses_in_option enclosing f.default)
uses_in_field enclosing attributes (struct_items.Const c) = []
uses_in_field enclosing attributes (struct_items.Enum e) = []

-- the names that a member of a struct uses
abbrev pub uses_in_struct : Option (List ℕ) → StructMember → List Use
uses_in_struct enclosing member = uses_in_field enclosing member.attributes member.item

-- the names that a field of a union uses
abbrev pub uses_in_union : Option (List ℕ) → UnionField → List Use
uses_in_union enclosing f = uses_in_attributes enclosing f.attributes ++ uses_in_type enclosing f.kind.base

-- the names that an enumerator uses
abbrev pub uses_in_enum : Option (List ℕ) → Enumerator → List Use
uses_in_enum enclosing e = uses_in_attributes enclosing e.attributes ++ uses_in_option enclosing e.value

-- the names that a parameter uses
abbrev pub uses_in_parameter : Option (List ℕ) → Parameter → List Use
uses_in_parameter enclosing p = uses_in_attributes enclosing p.attributes ++ uses_in_type enclosing p.kind.base

-- the parameters of a method's response, where it has one
abbrev pub response_of : Option (List Parameter) → List Parameter
response_of None = []
response_of (Some parameters) = parameters

-- the names that a method uses; constants and enums in an interface are definitions of their own
abbrev pub uses_in_method : Option (List ℕ) → List Attribute → InterfaceItem → List Use
uses_in_method enclosing attributes (interface_items.Method m) =
    uses_in_attributes enclosing attributes
    ++ (flat_map (uses_in_parameter enclosing) m.request ++ flat_map (uses_in_parameter enclosing) (response_of m.response))
uses_in_method enclosing attributes (interface_items.Const c) = []
uses_in_method enclosing attributes (interface_items.Enum e) = []

-- the names that a member of an interface uses
abbrev pub uses_in_interface : Option (List ℕ) → InterfaceMember → List Use
uses_in_interface enclosing member = uses_in_method enclosing member.attributes member.item

-- the names that stand in a definition: a constant encloses nothing, all others enclose what stands in them
abbrev pub uses_in_item : Defined → DefinitionItem → List Use
uses_in_item d (items.Struct item) = flat_map (uses_in_struct (Some d.full)) item.members
uses_in_item d (items.Union item) = flat_map (uses_in_union (Some d.full)) item.fields
uses_in_item d (items.Enum item) = flat_map (uses_in_enum (Some d.full)) item.enumerators
uses_in_item d (items.Interface item) = flat_map (uses_in_interface (Some d.full)) item.members
uses_in_item d (items.Const item) = uses_in_type d.enclosing item.kind.base ++ uses_in_value d.enclosing item.value

-- the names that a definition uses: those in the attributes before it are looked up from outside it
abbrev pub uses_of : Defined → List Use
uses_of d = uses_in_attributes d.enclosing d.attributes ++ uses_in_item d d.item
