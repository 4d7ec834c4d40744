-- What a file defines, in the order of the file: each definition before what is nested in it. A definition goes by its number here.
use Rattle.std.specs.Prelude.{ℕ, List, [], ◌∷◌, map, Option, Some, None}
use Rattle.std.specs.Option.{option_map}
use Rattle.std.specs.List.{flat_map}
use Rattle.mojom_ast.specs.declared.names.Identifier.{Identifier}
use Rattle.mojom_ast.specs.declared.attributes.Attribute.{Attribute}
use Rattle.mojom_ast.specs.declared.definitions.Definition.{Definition}
use Rattle.mojom_ast.specs.declared.definitions.DefinitionItem.{DefinitionItem}
use Rattle.mojom_ast.specs.declared.definitions.DefinitionItem.TheVariants as items
use Rattle.mojom_ast.specs.declared.definitions.StructMember.{StructMember}
use Rattle.mojom_ast.specs.declared.definitions.StructItem.{StructItem}
use Rattle.mojom_ast.specs.declared.definitions.StructItem.TheVariants as struct_items
use Rattle.mojom_ast.specs.declared.definitions.InterfaceMember.{InterfaceMember}
use Rattle.mojom_ast.specs.declared.definitions.InterfaceItem.{InterfaceItem}
use Rattle.mojom_ast.specs.declared.definitions.InterfaceItem.TheVariants as interface_items
use Rattle.mojom_ast.specs.declared.definitions.Enumerator.{Enumerator}
use Rattle.mojom_ast.specs.declared.file.File.{File}
use Rattle.mojom_ast.specs.declared.file.ModuleStatement.{ModuleStatement}
use Rattle.mj_base.specs.Names.{within, named_in}
use Rattle.mojom_files.specs.Names.{dotted}

-- a definition: its full name, that of the definition around it where there is one, its identifier, the attributes before it, and what
-- it is
pub record Defined : Type 0 where
  pub full : List ℕ
  pub enclosing : Option (List ℕ)
  pub name : Identifier
  pub attributes : List Attribute
  pub item : DefinitionItem

-- the identifier of a definition
abbrev pub identifier_of : DefinitionItem → Identifier
identifier_of (items.Struct item) = item.name
identifier_of (items.Union item) = item.name
identifier_of (items.Enum item) = item.name
identifier_of (items.Interface item) = item.name
identifier_of (items.Const item) = item.name

-- the text of the module's name
abbrev pub module_of : Option ModuleStatement → Option (List ℕ)
module_of statement = option_map (λ (s : ModuleStatement). dotted s.name.parts) statement

-- a definition that is nested in no other
abbrev pub outermost : Option (List ℕ) → List Attribute → DefinitionItem → Defined
outermost outer attributes item = record {
  full = named_in outer (identifier_of item).text;
  enclosing = None;
  name = identifier_of item;
  attributes = attributes;
  item = item;
}

-- a definition that is nested in the one of this full name
abbrev pub nested : List ℕ → List Attribute → DefinitionItem → Defined
nested outer attributes item = record {
  full = within outer (identifier_of item).text;
  enclosing = Some outer;
  name = identifier_of item;
  attributes = attributes;
  item = item;
}

-- the member of a struct that is a constant or an enum
abbrev pub struct_item : List ℕ → List Attribute → StructItem → List Defined
struct_item outer attributes (struct_items.Const item) = nested outer attributes (items.Const item) ∷ []
struct_item outer attributes (struct_items.Enum item) = nested outer attributes (items.Enum item) ∷ []
struct_item outer attributes (struct_items.Field item) = []

-- the member of an interface that is a constant or an enum
abbrev pub interface_item : List ℕ → List Attribute → InterfaceItem → List Defined
interface_item outer attributes (interface_items.Const item) = nested outer attributes (items.Const item) ∷ []
interface_item outer attributes (interface_items.Enum item) = nested outer attributes (items.Enum item) ∷ []
interface_item outer attributes (interface_items.Method item) = []

-- what a member of the struct of this full name defines
abbrev pub in_struct : List ℕ → StructMember → List Defined
in_struct outer member = struct_item outer member.attributes member.item

-- what a member of the interface of this full name defines
abbrev pub in_interface : List ℕ → InterfaceMember → List Defined
in_interface outer member = interface_item outer member.attributes member.item

-- what is nested in the definition of this full name
abbrev pub nested_in : List ℕ → DefinitionItem → List Defined
nested_in outer (items.Struct item) = flat_map (in_struct outer) item.members
nested_in outer (items.Interface item) = flat_map (in_interface outer) item.members
nested_in outer (items.Union item) = []
nested_in outer (items.Enum item) = []
nested_in outer (items.Const item) = []

-- a definition, and what is nested in it
abbrev pub with_nested : Option (List ℕ) → Definition → List Defined
with_nested outer definition =
    outermost outer definition.attributes definition.item
    ∷ nested_in (named_in outer (identifier_of definition.item).text) definition.item

-- what a file defines
abbrev pub definitions_of : File → List Defined
definitions_of file = flat_map (with_nested (module_of file.module_statement)) file.definitions

-- the enumerators of an enum
abbrev pub enumerators_of : DefinitionItem → List Enumerator
enumerators_of (items.Enum item) = item.enumerators
enumerators_of _ = []

-- the full names of a definition's enumerators
abbrev pub enumerator_names : Defined → List (List ℕ)
enumerator_names one = map (λ (e : Enumerator). within one.full e.name.text) (enumerators_of one.item)
