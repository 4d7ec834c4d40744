-- A tree without the places that it keeps: two trees that are one so differ in places alone.
use Rattle.std.specs.Prelude.{map}
use Rattle.std.specs.Option.{option_map}
use Rattle.mj_base.specs.declared.ids.Span.{Span}
use Rattle.mojom_ast.specs.declared.names.Identifier.{Identifier}
use Rattle.mojom_ast.specs.declared.names.Number.{Number}
use Rattle.mojom_ast.specs.declared.names.StringLiteral.{StringLiteral}
use Rattle.mojom_ast.specs.declared.names.Name.{Name}
use Rattle.mojom_ast.specs.declared.names.Value.{Value}
use Rattle.mojom_ast.specs.declared.names.Value.TheVariants as values
use Rattle.mojom_ast.specs.declared.attributes.Attribute.{Attribute}
use Rattle.mojom_ast.specs.declared.definitions.Definition.{Definition}
use Rattle.mojom_ast.specs.declared.definitions.DefinitionItem.{DefinitionItem}
use Rattle.mojom_ast.specs.declared.definitions.DefinitionItem.TheVariants as items
use Rattle.mojom_ast.specs.declared.definitions.Struct.{Struct}
use Rattle.mojom_ast.specs.declared.definitions.StructMember.{StructMember}
use Rattle.mojom_ast.specs.declared.definitions.StructItem.{StructItem}
use Rattle.mojom_ast.specs.declared.definitions.StructItem.TheVariants as struct_items
use Rattle.mojom_ast.specs.declared.definitions.Field.{Field}
use Rattle.mojom_ast.specs.declared.definitions.Union.{Union}
use Rattle.mojom_ast.specs.declared.definitions.UnionField.{UnionField}
use Rattle.mojom_ast.specs.declared.definitions.Enum.{Enum}
use Rattle.mojom_ast.specs.declared.definitions.Enumerator.{Enumerator}
use Rattle.mojom_ast.specs.declared.definitions.Interface.{Interface}
use Rattle.mojom_ast.specs.declared.definitions.InterfaceMember.{InterfaceMember}
use Rattle.mojom_ast.specs.declared.definitions.InterfaceItem.{InterfaceItem}
use Rattle.mojom_ast.specs.declared.definitions.InterfaceItem.TheVariants as interface_items
use Rattle.mojom_ast.specs.declared.definitions.Method.{Method}
use Rattle.mojom_ast.specs.declared.definitions.Parameter.{Parameter}
use Rattle.mojom_ast.specs.declared.definitions.Const.{Const}
use Rattle.mojom_ast.specs.declared.file.File.{File}
use Rattle.mojom_ast.specs.declared.file.ModuleStatement.{ModuleStatement}
use Rattle.mojom_ast.specs.declared.file.Import.{Import}
use Rattle.mojom_ast.specs.TypeTrees.{BaseTree, Named, ArrayOf, MapOf, HandleOf, PendingOf, TypeTree}

-- the place that stands for all
abbrev pub nowhere : Span
nowhere = record { start = 0; len = 0 }

-- an identifier
abbrev pub identifier_unplaced : Identifier → Identifier
identifier_unplaced x = record { text = x.text; span = nowhere }

-- a number
abbrev pub number_unplaced : Number → Number
number_unplaced x = record { value = x.value; span = nowhere }

-- a string
abbrev pub string_unplaced : StringLiteral → StringLiteral
string_unplaced x = record { bytes = x.bytes; span = nowhere }

-- a name
abbrev pub name_unplaced : Name → Name
name_unplaced x = record { parts = map identifier_unplaced x.parts }

-- a value
abbrev pub value_unplaced : Value → Value
value_unplaced (values.String s) = values.String (string_unplaced s)
value_unplaced (values.Bool value span) = values.Bool value nowhere
value_unplaced (values.Number negative magnitude span) = values.Number negative magnitude nowhere
value_unplaced (values.Name name) = values.Name (name_unplaced name)

-- an attribute
abbrev pub attribute_unplaced : Attribute → Attribute
attribute_unplaced x = record { name = identifier_unplaced x.name; value = option_map value_unplaced x.value }

-- a type without its question mark
abbrev pub base_unplaced : BaseTree → BaseTree
base_unplaced (Named name) = Named (name_unplaced name)
base_unplaced (ArrayOf of nullable count) = ArrayOf (base_unplaced of) nullable (option_map number_unplaced count)
base_unplaced (MapOf key key_nullable value value_nullable) = MapOf (base_unplaced key) key_nullable (base_unplaced value) value_nullable
base_unplaced (HandleOf sort) = HandleOf sort
base_unplaced (PendingOf sort name) = PendingOf sort (name_unplaced name)

-- a type
abbrev pub type_unplaced : TypeTree → TypeTree
type_unplaced x = record { base = base_unplaced x.base; nullable = x.nullable }

-- a constant
abbrev pub const_unplaced : Const → Const
const_unplaced x = record { kind = type_unplaced x.kind; name = identifier_unplaced x.name; value = value_unplaced x.value }

-- an enumerator
abbrev pub enumerator_unplaced : Enumerator → Enumerator
enumerator_unplaced x =
    record {
      attributes = map attribute_unplaced x.attributes;
      name = identifier_unplaced x.name;
      value = option_map value_unplaced x.value;
    }

-- an enum
abbrev pub enum_unplaced : Enum → Enum
enum_unplaced x = record { name = identifier_unplaced x.name; enumerators = map enumerator_unplaced x.enumerators }

-- a field of a struct
abbrev pub field_unplaced : Field → Field
field_unplaced x =
    record {
      kind = type_unplaced x.kind;
      name = identifier_unplaced x.name;
      ordinal = option_map number_unplaced x.ordinal;
      default = option_map value_unplaced x.default;
    }

-- what stands in a struct
abbrev pub struct_item_unplaced : StructItem → StructItem
struct_item_unplaced (struct_items.Const x) = struct_items.Const (const_unplaced x)
struct_item_unplaced (struct_items.Enum x) = struct_items.Enum (enum_unplaced x)
struct_item_unplaced (struct_items.Field x) = struct_items.Field (field_unplaced x)

-- a member of a struct
abbrev pub struct_member_unplaced : StructMember → StructMember
struct_member_unplaced x = record { attributes = map attribute_unplaced x.attributes; item = struct_item_unplaced x.item }

-- a struct
abbrev pub struct_unplaced : Struct → Struct
struct_unplaced x = record { name = identifier_unplaced x.name; members = map struct_member_unplaced x.members }

-- a field of a union
abbrev pub union_field_unplaced : UnionField → UnionField
union_field_unplaced x =
    record {
      attributes = map attribute_unplaced x.attributes;
      kind = type_unplaced x.kind;
      name = identifier_unplaced x.name;
      ordinal = option_map number_unplaced x.ordinal;
    }

-- a union
abbrev pub union_unplaced : Union → Union
union_unplaced x = record { name = identifier_unplaced x.name; fields = map union_field_unplaced x.fields }

-- a parameter
abbrev pub parameter_unplaced : Parameter → Parameter
parameter_unplaced x =
    record {
      attributes = map attribute_unplaced x.attributes;
      kind = type_unplaced x.kind;
      name = identifier_unplaced x.name;
      ordinal = option_map number_unplaced x.ordinal;
    }

-- a method
abbrev pub method_unplaced : Method → Method
method_unplaced x =
    record {
      name = identifier_unplaced x.name;
      ordinal = option_map number_unplaced x.ordinal;
      request = map parameter_unplaced x.request;
      response = option_map (map parameter_unplaced) x.response;
    }

-- what stands in an interface
abbrev pub interface_item_unplaced : InterfaceItem → InterfaceItem
interface_item_unplaced (interface_items.Const x) = interface_items.Const (const_unplaced x)
interface_item_unplaced (interface_items.Enum x) = interface_items.Enum (enum_unplaced x)
interface_item_unplaced (interface_items.Method x) = interface_items.Method (method_unplaced x)

-- a member of an interface
abbrev pub interface_member_unplaced : InterfaceMember → InterfaceMember
interface_member_unplaced x = record { attributes = map attribute_unplaced x.attributes; item = interface_item_unplaced x.item }

-- an interface
abbrev pub interface_unplaced : Interface → Interface
interface_unplaced x = record { name = identifier_unplaced x.name; members = map interface_member_unplaced x.members }

-- what is defined
abbrev pub definition_item_unplaced : DefinitionItem → DefinitionItem
definition_item_unplaced (items.Struct x) = items.Struct (struct_unplaced x)
definition_item_unplaced (items.Union x) = items.Union (union_unplaced x)
definition_item_unplaced (items.Enum x) = items.Enum (enum_unplaced x)
definition_item_unplaced (items.Interface x) = items.Interface (interface_unplaced x)
definition_item_unplaced (items.Const x) = items.Const (const_unplaced x)

-- a definition
abbrev pub definition_unplaced : Definition → Definition
definition_unplaced x = record { attributes = map attribute_unplaced x.attributes; item = definition_item_unplaced x.item }

-- a module statement
abbrev pub module_unplaced : ModuleStatement → ModuleStatement
module_unplaced x = record { attributes = map attribute_unplaced x.attributes; name = name_unplaced x.name }

-- an import
abbrev pub import_unplaced : Import → Import
import_unplaced x = record { attributes = map attribute_unplaced x.attributes; path = string_unplaced x.path }

-- a file
unfoldable pub unplaced : File → File
unplaced x =
    record {
      module_statement = option_map module_unplaced x.module_statement;
      imports = map import_unplaced x.imports;
      definitions = map definition_unplaced x.definitions;
    }
