-- The sorts of the tokens that a tree shows.
use Rattle.std.specs.Prelude.{Bool, true, false, List, [], ◌∷◌, ◌++◌}
use Rattle.std.specs.List.{flat_map}
use Rattle.mojom_ast.specs.declared.token.Sort.{Sort}
use Rattle.mojom_ast.specs.declared.token.Sort.TheVariants as sorts
use Rattle.mojom_ast.specs.declared.token.Keyword as keyword
use Rattle.mojom_ast.specs.declared.token.Keyword.TheVariants as keywords
use Rattle.mojom_ast.specs.declared.token.Symbol as symbol
use Rattle.mojom_ast.specs.declared.token.Symbol.TheVariants.{Semicolon, Dot, OpenParen, CloseParen, OpenBracket, CloseBracket, OpenBrace, CloseBrace, Comma, Less, Greater, Equals, Arrow, Question, At, Minus}
use Rattle.mojom_ast.specs.declared.names.Identifier.{Identifier}
use Rattle.mojom_ast.specs.declared.names.Number.{Number}
use Rattle.mojom_ast.specs.declared.names.StringLiteral.{StringLiteral}
use Rattle.mojom_ast.specs.declared.names.Name.{Name}
use Rattle.mojom_ast.specs.declared.names.Value.{Value}
use Rattle.mojom_ast.specs.declared.names.Value.TheVariants as values
use Rattle.mojom_ast.specs.declared.attributes.Attribute.{Attribute}
use Rattle.mojom_ast.specs.declared.types.HandleSort.{HandleSort}
use Rattle.mojom_ast.specs.declared.types.PendingSort.{PendingSort}
use Rattle.mojom_ast.specs.declared.types.PendingSort.TheVariants as pendings
use Rattle.mojom_ast.specs.declared.definitions.Definition.{Definition}
use Rattle.mojom_ast.specs.declared.definitions.DefinitionItem.{DefinitionItem}
use Rattle.mojom_ast.specs.declared.definitions.DefinitionItem.TheVariants as items
use Rattle.mojom_ast.specs.declared.definitions.Struct.{Struct}
use Rattle.mojom_ast.specs.declared.definitions.StructMember.{StructMember}
use Rattle.mojom_ast.specs.declared.definitions.StructItem.{StructItem}
use Rattle.mojom_ast.specs.declared.definitions.StructItem.TheVariants as struct_items
use Rattle.mojom_ast.specs.declared.definitions.Field.{Field}
use Rattle.mojom_ast.specs.declared.definitions.Union.{Union}
use Rattle.mojom_ast.specs.declared.definitions.UnionField.{UnionField}
use Rattle.mojom_ast.specs.declared.definitions.Enum.{Enum}
use Rattle.mojom_ast.specs.declared.definitions.Enumerator.{Enumerator}
use Rattle.mojom_ast.specs.declared.definitions.Interface.{Interface}
use Rattle.mojom_ast.specs.declared.definitions.InterfaceMember.{InterfaceMember}
use Rattle.mojom_ast.specs.declared.definitions.InterfaceItem.{InterfaceItem}
use Rattle.mojom_ast.specs.declared.definitions.InterfaceItem.TheVariants as interface_items
use Rattle.mojom_ast.specs.declared.definitions.Method.{Method}
use Rattle.mojom_ast.specs.declared.definitions.Parameter.{Parameter}
use Rattle.mojom_ast.specs.declared.definitions.Const.{Const}
use Rattle.mojom_ast.specs.declared.file.File.{File}
use Rattle.mojom_ast.specs.declared.file.ModuleStatement.{ModuleStatement}
use Rattle.mojom_ast.specs.declared.file.Import.{Import}
use Rattle.mojom_ast.specs.TypeTrees.{BaseTree, Named, ArrayOf, MapOf, HandleOf, PendingOf, TypeTree}
use Rattle.mojom_print.specs.Types.{handle_sort_text}
use Rattle.mojom_print.proofs.Prints.{option_sorts}
use Rattle.mojom_print.proofs.CommaLists.{between, ended}

-- the sort of a keyword
abbrev pub key : keyword.Keyword → List Sort
key k = sorts.Keyword k ∷ []

-- the sort of a symbol
abbrev pub sign : symbol.Symbol → List Sort
sign s = sorts.Symbol s ∷ []

-- an identifier
abbrev pub identifier_sorts : Identifier → List Sort
identifier_sorts x = sorts.Identifier x.text ∷ []

-- a number
abbrev pub number_sorts : Number → List Sort
number_sorts x = sorts.Number x.value ∷ []

-- a string
abbrev pub string_sorts : StringLiteral → List Sort
string_sorts x = sorts.String x.bytes ∷ []

-- a dot and an identifier
abbrev pub dotted_sorts : Identifier → List Sort
dotted_sorts x = sign Dot ++ identifier_sorts x

-- identifiers with dots between
abbrev pub parts_sorts : List Identifier → List Sort
parts_sorts [] = []
parts_sorts (x ∷ xs) = identifier_sorts x ++ flat_map dotted_sorts xs

-- a name
abbrev pub name_sorts : Name → List Sort
name_sorts x = parts_sorts x.parts

-- an ordinal
abbrev pub ordinal_sorts : Number → List Sort
ordinal_sorts x = sign At ++ number_sorts x

-- true or false
abbrev pub truth_sorts : Bool → List Sort
truth_sorts true = key keywords.True
truth_sorts false = key keywords.False

-- a minus, where there is one
abbrev pub sign_sorts : Bool → List Sort
sign_sorts true = sign Minus
sign_sorts false = []

-- a value
abbrev pub value_sorts : Value → List Sort
value_sorts (values.String s) = string_sorts s
value_sorts (values.Bool value span) = truth_sorts value
value_sorts (values.Number negative magnitude span) = sign_sorts negative ++ sorts.Number magnitude ∷ []
value_sorts (values.Name name) = name_sorts name

-- `=` and a value
abbrev pub assigned_sorts : Value → List Sort
assigned_sorts x = sign Equals ++ value_sorts x

-- an attribute
abbrev pub attribute_sorts : Attribute → List Sort
attribute_sorts x = identifier_sorts x.name ++ option_sorts assigned_sorts x.value

-- attributes in brackets
abbrev pub bracketed_sorts : List Attribute → List Sort
bracketed_sorts xs = sign OpenBracket ++ (between attribute_sorts xs ++ sign CloseBracket)

-- none have no brackets
abbrev pub attributes_sorts : List Attribute → List Sort
attributes_sorts [] = []
attributes_sorts (x ∷ xs) = bracketed_sorts (x ∷ xs)

-- the sort of handles
abbrev pub handle_sort_sorts : HandleSort → List Sort
handle_sort_sorts x = sorts.Identifier (handle_sort_text x) ∷ []

-- the sort of handles in `<>`
abbrev pub sort_given_sorts : HandleSort → List Sort
sort_given_sorts x = sign Less ++ (handle_sort_sorts x ++ sign Greater)

-- the keyword of a pending end
abbrev pub pending_sort_sorts : PendingSort → List Sort
pending_sort_sorts pendings.Remote = key keywords.PendingRemote
pending_sort_sorts pendings.Receiver = key keywords.PendingReceiver
pending_sort_sorts pendings.AssociatedRemote = key keywords.PendingAssociatedRemote
pending_sort_sorts pendings.AssociatedReceiver = key keywords.PendingAssociatedReceiver

-- a comma and the length of an array
abbrev pub count_sorts : Number → List Sort
count_sorts x = sign Comma ++ number_sorts x

-- `?`, where a type has it
abbrev pub nullable_sorts : Bool → List Sort
nullable_sorts true = sign Question
nullable_sorts false = []

-- a type without its `?`
abbrev pub base_sorts : BaseTree → List Sort
base_sorts (Named name) = name_sorts name
base_sorts (ArrayOf of nullable count) =
    key keywords.Array ++ (sign Less ++ ((base_sorts of ++ nullable_sorts nullable) ++ (option_sorts count_sorts count ++ sign Greater)))
base_sorts (MapOf k n v m) =
    key keywords.Map ++ (sign Less ++ ((base_sorts k ++ nullable_sorts n) ++ (sign Comma ++ ((base_sorts v ++ nullable_sorts m) ++ sign Greater))))
base_sorts (HandleOf sort) = key keywords.Handle ++ option_sorts sort_given_sorts sort
base_sorts (PendingOf sort name) = pending_sort_sorts sort ++ (sign Less ++ (name_sorts name ++ sign Greater))

-- a type
abbrev pub type_sorts : TypeTree → List Sort
type_sorts x = base_sorts x.base ++ nullable_sorts x.nullable

-- a const
unfoldable pub const_sorts : Const → List Sort
const_sorts x = key keywords.Const ++ (type_sorts x.kind ++ (identifier_sorts x.name ++ (sign Equals ++ (value_sorts x.value ++ sign Semicolon))))

-- an enumerator
unfoldable pub enumerator_sorts : Enumerator → List Sort
enumerator_sorts x = attributes_sorts x.attributes ++ (identifier_sorts x.name ++ option_sorts assigned_sorts x.value)

-- an enum
unfoldable pub enum_sorts : Enum → List Sort
enum_sorts x =
    key keywords.Enum ++ (identifier_sorts x.name ++ (sign OpenBrace ++ (ended enumerator_sorts x.enumerators ++ (sign CloseBrace ++ sign Semicolon))))

-- a field
unfoldable pub field_sorts : Field → List Sort
field_sorts x =
    type_sorts x.kind ++ (identifier_sorts x.name ++ (option_sorts ordinal_sorts x.ordinal ++ (option_sorts assigned_sorts x.default ++ sign Semicolon)))

-- a struct item
abbrev pub struct_item_sorts : StructItem → List Sort
struct_item_sorts (struct_items.Const x) = const_sorts x
struct_item_sorts (struct_items.Enum x) = enum_sorts x
struct_item_sorts (struct_items.Field x) = field_sorts x

-- a struct member
abbrev pub struct_member_sorts : StructMember → List Sort
struct_member_sorts x = attributes_sorts x.attributes ++ struct_item_sorts x.item

-- a struct
unfoldable pub struct_sorts : Struct → List Sort
struct_sorts x =
    key keywords.Struct ++ (identifier_sorts x.name ++ (sign OpenBrace ++ (flat_map struct_member_sorts x.members ++ (sign CloseBrace ++ sign Semicolon))))

-- a union field
unfoldable pub union_field_sorts : UnionField → List Sort
union_field_sorts x =
    attributes_sorts x.attributes ++ (type_sorts x.kind ++ (identifier_sorts x.name ++ (option_sorts ordinal_sorts x.ordinal ++ sign Semicolon)))

-- a union
unfoldable pub union_sorts : Union → List Sort
union_sorts x =
    key keywords.Union ++ (identifier_sorts x.name ++ (sign OpenBrace ++ (flat_map union_field_sorts x.fields ++ (sign CloseBrace ++ sign Semicolon))))

-- a parameter
unfoldable pub parameter_sorts : Parameter → List Sort
parameter_sorts x = attributes_sorts x.attributes ++ (type_sorts x.kind ++ (identifier_sorts x.name ++ option_sorts ordinal_sorts x.ordinal))

-- parameters in parentheses
unfoldable pub parameters_sorts : List Parameter → List Sort
parameters_sorts xs = sign OpenParen ++ (between parameter_sorts xs ++ sign CloseParen)

-- an arrow and parameters
abbrev pub response_sorts : List Parameter → List Sort
response_sorts xs = sign Arrow ++ parameters_sorts xs

-- a method
unfoldable pub method_sorts : Method → List Sort
method_sorts x =
    identifier_sorts x.name ++ (option_sorts ordinal_sorts x.ordinal
    ++ (parameters_sorts x.request ++ (option_sorts response_sorts x.response ++ sign Semicolon)))

-- an interface item
abbrev pub interface_item_sorts : InterfaceItem → List Sort
interface_item_sorts (interface_items.Const x) = const_sorts x
interface_item_sorts (interface_items.Enum x) = enum_sorts x
interface_item_sorts (interface_items.Method x) = method_sorts x

-- an interface member
abbrev pub interface_member_sorts : InterfaceMember → List Sort
interface_member_sorts x = attributes_sorts x.attributes ++ interface_item_sorts x.item

-- an interface
unfoldable pub interface_sorts : Interface → List Sort
interface_sorts x =
    key keywords.Interface ++ (identifier_sorts x.name
    ++ (sign OpenBrace ++ (flat_map interface_member_sorts x.members ++ (sign CloseBrace ++ sign Semicolon))))

-- a definition item
abbrev pub definition_item_sorts : DefinitionItem → List Sort
definition_item_sorts (items.Struct x) = struct_sorts x
definition_item_sorts (items.Union x) = union_sorts x
definition_item_sorts (items.Enum x) = enum_sorts x
definition_item_sorts (items.Interface x) = interface_sorts x
definition_item_sorts (items.Const x) = const_sorts x

-- a definition
abbrev pub definition_sorts : Definition → List Sort
definition_sorts x = attributes_sorts x.attributes ++ definition_item_sorts x.item

-- a module
abbrev pub module_sorts : ModuleStatement → List Sort
module_sorts x = attributes_sorts x.attributes ++ (key keywords.Module ++ (name_sorts x.name ++ sign Semicolon))

-- an import
abbrev pub import_sorts : Import → List Sort
import_sorts x = attributes_sorts x.attributes ++ (key keywords.Import ++ (string_sorts x.path ++ sign Semicolon))

-- a file
unfoldable pub file_sorts : File → List Sort
file_sorts x = option_sorts module_sorts x.module_statement ++ (flat_map import_sorts x.imports ++ flat_map definition_sorts x.definitions)
