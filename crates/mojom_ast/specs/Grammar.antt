-- The grammar of the Mojom IDL reference, a definition for each rule. A type may hold types: the rules that hold types take the number of types that
-- may still stand round one another.
use Rattle.std.specs.Prelude.{ℕ, zero, suc, List, [], ◌∷◌, unwrap_or}
use Rattle.mojom_ast.specs.declared.classes.TheConstants.{NUMBER, STRING, ARRAY, MAP, HANDLE, PENDING_REMOTE, PENDING_RECEIVER, PENDING_ASSOCIATED_REMOTE, PENDING_ASSOCIATED_RECEIVER, MESSAGE_PIPE, DATA_PIPE_CONSUMER, DATA_PIPE_PRODUCER, SHARED_BUFFER, PLATFORM}
use Rattle.mojom_ast.specs.declared.token.Keyword.TheVariants as keywords
use Rattle.mojom_ast.specs.declared.token.Symbol.TheVariants.{Semicolon, Comma, Dot, OpenParen, CloseParen, OpenBracket, CloseBracket, OpenBrace, CloseBrace, Less, Greater, Equals, Arrow, Question, At, Plus, Minus}
use Rattle.mojom_ast.specs.declared.names.Identifier.{Identifier}
use Rattle.mojom_ast.specs.declared.names.Number.{Number}
use Rattle.mojom_ast.specs.declared.names.StringLiteral.{StringLiteral}
use Rattle.mojom_ast.specs.declared.names.Name.{Name}
use Rattle.mojom_ast.specs.declared.names.Value.{Value}
use Rattle.mojom_ast.specs.declared.names.Value.TheVariants as values
use Rattle.mojom_ast.specs.declared.attributes.Attribute.{Attribute}
use Rattle.mojom_ast.specs.declared.types.HandleSort.{HandleSort}
use Rattle.mojom_ast.specs.declared.types.HandleSort.TheVariants.{MessagePipe, DataPipeConsumer, DataPipeProducer, SharedBuffer, Platform}
use Rattle.mojom_ast.specs.declared.types.PendingSort.{PendingSort}
use Rattle.mojom_ast.specs.declared.types.PendingSort.TheVariants.{Remote, Receiver, AssociatedRemote, AssociatedReceiver}
use Rattle.mojom_ast.specs.declared.definitions.Definition.{Definition}
use Rattle.mojom_ast.specs.declared.definitions.DefinitionItem.{DefinitionItem}
use Rattle.mojom_ast.specs.declared.definitions.DefinitionItem.TheVariants as items
use Rattle.mojom_ast.specs.declared.definitions.Struct.{Struct}
use Rattle.mojom_ast.specs.declared.definitions.StructMember.{StructMember}
use Rattle.mojom_ast.specs.declared.definitions.StructItem.{StructItem}
use Rattle.mojom_ast.specs.declared.definitions.StructItem.TheVariants as struct_items
use Rattle.mojom_ast.specs.declared.definitions.Field.{Field}
use Rattle.mojom_ast.specs.declared.definitions.Union.{Union}
use Rattle.mojom_ast.specs.declared.definitions.UnionField.{UnionField}
use Rattle.mojom_ast.specs.declared.definitions.Enum.{Enum}
use Rattle.mojom_ast.specs.declared.definitions.Enumerator.{Enumerator}
use Rattle.mojom_ast.specs.declared.definitions.Interface.{Interface}
use Rattle.mojom_ast.specs.declared.definitions.InterfaceMember.{InterfaceMember}
use Rattle.mojom_ast.specs.declared.definitions.InterfaceItem.{InterfaceItem}
use Rattle.mojom_ast.specs.declared.definitions.InterfaceItem.TheVariants as interface_items
use Rattle.mojom_ast.specs.declared.definitions.Method.{Method}
use Rattle.mojom_ast.specs.declared.definitions.Parameter.{Parameter}
use Rattle.mojom_ast.specs.declared.definitions.Const.{Const}
use Rattle.mojom_ast.specs.declared.file.File.{File}
use Rattle.mojom_ast.specs.declared.file.ModuleStatement.{ModuleStatement}
use Rattle.mojom_ast.specs.declared.file.Import.{Import}
use Rattle.mojom_ast.specs.Classes.{identifiers}
use Rattle.mojom_ast.specs.TypeTrees.{BaseTree, Named, HandleOf, TypeTree}
use Rattle.mojom_ast.specs.Lang.{Lang, tok, keyword, symbol, ◌▹◌, as_value, ◌or◌, maybe, many, list, joined, deep, labelled}
use Rattle.mojom_ast.specs.Trees.{identifier_of, number_of, string_of, make_name, make_true, make_false, make_number, make_plus, make_minus, make_attribute, inner, behind, make_array, make_map, make_pending, make_type, make_const, make_enumerator, make_enum, make_field, make_struct_member, make_struct, make_union_field, make_union, make_parameter, make_method, make_interface_member, make_interface, make_definition, make_module, make_import, make_file}

-- Id
unfoldable pub identifier : Lang Identifier
identifier = as_value identifier_of (tok identifiers)

-- Number
unfoldable pub number : Lang Number
number = as_value number_of (tok (NUMBER ∷ []))

-- String
unfoldable pub string : Lang StringLiteral
string = as_value string_of (tok (STRING ∷ []))

-- . Id
unfoldable pub dotted : Lang Identifier
dotted = as_value behind (symbol Dot ▹ identifier)

-- Name: Id (. Id)*
unfoldable pub name : Lang Name
name = as_value make_name (identifier ▹ many dotted)

-- Ord: @ Number
unfoldable pub ordinal : Lang Number
ordinal = as_value behind (symbol At ▹ number)

-- true or false
unfoldable pub boolean : Lang Value
boolean = as_value make_true (keyword keywords.True) or as_value make_false (keyword keywords.False)

-- (+ or -)? Number
unfoldable pub signed : Lang Value
signed = as_value make_number number or as_value make_plus (symbol Plus ▹ number) or as_value make_minus (symbol Minus ▹ number)

-- Val: String, true, false, (+ or -)? Number, or Name
unfoldable pub value : Lang Value
value = as_value values.String string or boolean or signed or as_value values.Name name

-- = Val
unfoldable pub assigned : Lang Value
assigned = as_value behind (symbol Equals ▹ value)

-- Id (= Val)?
unfoldable pub attribute : Lang Attribute
attribute = as_value make_attribute (identifier ▹ maybe assigned)

-- Attrs: [ list of Id (= Val)? ], a last comma allowed
unfoldable pub bracketed : Lang (List Attribute)
bracketed = as_value inner (symbol OpenBracket ▹ list attribute ▹ symbol CloseBracket)

-- Attrs?, an empty one as none
unfoldable pub attributes : Lang (List Attribute)
attributes = as_value (λ o. unwrap_or o []) (maybe bracketed)

-- Sort: an Id that is one of these five
unfoldable pub handle_sort : Lang HandleSort
handle_sort = as_value (λ t. MessagePipe) (tok (MESSAGE_PIPE ∷ []))
    or as_value (λ t. DataPipeConsumer) (tok (DATA_PIPE_CONSUMER ∷ []))
    or as_value (λ t. DataPipeProducer) (tok (DATA_PIPE_PRODUCER ∷ []))
    or as_value (λ t. SharedBuffer) (tok (SHARED_BUFFER ∷ []))
    or as_value (λ t. Platform) (tok (PLATFORM ∷ []))

-- < Sort >
unfoldable pub sort_given : Lang HandleSort
sort_given = as_value inner (symbol Less ▹ handle_sort ▹ symbol Greater)

-- handle (< Sort >)?
unfoldable pub handle : Lang BaseTree
handle = as_value (λ x. HandleOf x.1) (keyword keywords.Handle ▹ maybe sort_given)

-- one of the four pending keywords
unfoldable pub pending_sort : Lang PendingSort
pending_sort = as_value (λ t. Remote) (keyword keywords.PendingRemote)
    or as_value (λ t. Receiver) (keyword keywords.PendingReceiver)
    or as_value (λ t. AssociatedRemote) (keyword keywords.PendingAssociatedRemote)
    or as_value (λ t. AssociatedReceiver) (keyword keywords.PendingAssociatedReceiver)

-- one of the four pending keywords < Name >
unfoldable pub pending : Lang BaseTree
pending = as_value make_pending (pending_sort ▹ symbol Less ▹ name ▹ symbol Greater)

-- , Number
unfoldable pub count : Lang Number
count = as_value behind (symbol Comma ▹ number)

-- array < Type (, Number)? >
unfoldable pub array : Lang TypeTree → Lang BaseTree
array inside = as_value make_array (keyword keywords.Array ▹ symbol Less ▹ inside ▹ maybe count ▹ symbol Greater)

-- map < Type , Type >
unfoldable pub map_of : Lang TypeTree → Lang BaseTree
map_of inside = as_value make_map (keyword keywords.Map ▹ symbol Less ▹ inside ▹ symbol Comma ▹ inside ▹ symbol Greater)

-- Base: array, map, handle, pending or Name
unfoldable pub base : Lang TypeTree → Lang BaseTree
base inside = array inside or map_of inside or handle or pending or as_value Named name

-- what a type begins with: array, map, handle, a pending keyword or Id
abbrev pub type_starts : List ℕ
type_starts = ARRAY ∷ MAP ∷ HANDLE ∷ PENDING_REMOTE ∷ PENDING_RECEIVER ∷ PENDING_ASSOCIATED_REMOTE ∷ PENDING_ASSOCIATED_RECEIVER ∷ identifiers

-- Type: Base with or without ? behind it, and with at most this many types round one another
unfoldable pub type_at : ℕ → Lang TypeTree
type_at zero = deep type_starts
type_at (suc n) = as_value make_type (base (labelled type_starts (type_at n)) ▹ maybe (symbol Question))

-- Type, as it stands in other rules
abbrev pub type_within : ℕ → Lang TypeTree
type_within n = labelled type_starts (type_at n)

-- Const: const Type Id = Val ;
unfoldable pub const_of : ℕ → Lang Const
const_of n = as_value make_const (keyword keywords.Const ▹ type_within n ▹ identifier ▹ symbol Equals ▹ value ▹ symbol Semicolon)

-- Enumerator: Attrs? Id (= Val)?
unfoldable pub enumerator : Lang Enumerator
enumerator = as_value make_enumerator (attributes ▹ identifier ▹ maybe assigned)

-- Enum: enum Id { list of Enumerator } ; with a last comma allowed
unfoldable pub enum_of : Lang Enum
enum_of = as_value make_enum (keyword keywords.Enum ▹ identifier ▹ symbol OpenBrace ▹ list enumerator ▹ symbol CloseBrace ▹ symbol Semicolon)

-- Field: Type Id Ord? (= Val)? ;
unfoldable pub field : ℕ → Lang Field
field n = as_value make_field (type_within n ▹ identifier ▹ maybe ordinal ▹ maybe assigned ▹ symbol Semicolon)

-- Attrs? one of Const, Enum, Field
unfoldable pub struct_item : ℕ → Lang StructItem
struct_item n = as_value struct_items.Const (const_of n) or as_value struct_items.Enum enum_of or as_value struct_items.Field (field n)

-- Attrs? one of Const, Enum, Field, with its attributes
unfoldable pub struct_member : ℕ → Lang StructMember
struct_member n = as_value make_struct_member (attributes ▹ struct_item n)

-- Struct: struct Id { (Attrs? one of Const, Enum, Field)* } ;
unfoldable pub struct_of : ℕ → Lang Struct
struct_of n = as_value make_struct (keyword keywords.Struct ▹ identifier ▹ symbol OpenBrace ▹ many (struct_member n) ▹ symbol CloseBrace ▹ symbol Semicolon)

-- Attrs? Type Id Ord? ;
unfoldable pub union_field : ℕ → Lang UnionField
union_field n = as_value make_union_field (attributes ▹ type_within n ▹ identifier ▹ maybe ordinal ▹ symbol Semicolon)

-- Union: union Id { (Attrs? Type Id Ord? ;)* } ;
unfoldable pub union_of : ℕ → Lang Union
union_of n = as_value make_union (keyword keywords.Union ▹ identifier ▹ symbol OpenBrace ▹ many (union_field n) ▹ symbol CloseBrace ▹ symbol Semicolon)

-- Attrs? Type Id Ord?
unfoldable pub parameter : ℕ → Lang Parameter
parameter n = as_value make_parameter (attributes ▹ type_within n ▹ identifier ▹ maybe ordinal)

-- , Attrs? Type Id Ord?
unfoldable pub next_parameter : ℕ → Lang Parameter
next_parameter n = as_value behind (symbol Comma ▹ parameter n)

-- Params: ( list of Attrs? Type Id Ord? ) with no last comma
unfoldable pub parameters : ℕ → Lang (List Parameter)
parameters n = as_value (λ x. joined x.1.0) (symbol OpenParen ▹ maybe (parameter n ▹ many (next_parameter n)) ▹ symbol CloseParen)

-- => Params
unfoldable pub response : ℕ → Lang (List Parameter)
response n = as_value behind (symbol Arrow ▹ parameters n)

-- Method: Id Ord? Params (=> Params)? ;
unfoldable pub method : ℕ → Lang Method
method n = as_value make_method (identifier ▹ maybe ordinal ▹ parameters n ▹ maybe (response n) ▹ symbol Semicolon)

-- Attrs? one of Const, Enum, Method
unfoldable pub interface_item : ℕ → Lang InterfaceItem
interface_item n = as_value interface_items.Const (const_of n) or as_value interface_items.Enum enum_of or as_value interface_items.Method (method n)

-- Attrs? one of Const, Enum, Method, with its attributes
unfoldable pub interface_member : ℕ → Lang InterfaceMember
interface_member n = as_value make_interface_member (attributes ▹ interface_item n)

-- Interface: interface Id { (Attrs? one of Const, Enum, Method)* } ;
unfoldable pub interface_of : ℕ → Lang Interface
interface_of n =
    as_value make_interface (
    keyword keywords.Interface ▹ identifier ▹ symbol OpenBrace ▹ many (interface_member n) ▹ symbol CloseBrace ▹ symbol Semicolon
    )

-- Def: Attrs? one of Struct, Union, Enum, Interface, Const
unfoldable pub definition_item : ℕ → Lang DefinitionItem
definition_item n =
    as_value items.Struct (struct_of n)
    or as_value items.Union (union_of n)
    or as_value items.Enum enum_of
    or as_value items.Interface (interface_of n)
    or as_value items.Const (const_of n)

-- Def, with its attributes
unfoldable pub definition : ℕ → Lang Definition
definition n = as_value make_definition (attributes ▹ definition_item n)

-- module Name ;
unfoldable pub module_name : Lang Name
module_name = as_value inner (keyword keywords.Module ▹ name ▹ symbol Semicolon)

-- Attrs? module Name ;
unfoldable pub module_of : Lang ModuleStatement
module_of = as_value make_module (attributes ▹ module_name)

-- import String ;
unfoldable pub import_path : Lang StringLiteral
import_path = as_value inner (keyword keywords.Import ▹ string ▹ symbol Semicolon)

-- Attrs? import String ;
unfoldable pub import_of : Lang Import
import_of = as_value make_import (attributes ▹ import_path)

-- File: (Attrs? module Name ;)? (Attrs? import String ;)* Def*
unfoldable pub file : ℕ → Lang File
file n = as_value make_file (maybe module_of ▹ many import_of ▹ many (definition n))
