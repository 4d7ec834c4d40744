-- The tree that a rule of the grammar makes of the values of its parts, which stand as pairs from left to right: of what is
-- written in the comment above each.
use Rattle.std.specs.Prelude.{ℕ, true, false, Option, is_some, List, [], ◌∷◌}
use Rattle.mojom_ast.specs.declared.token.Token.{Token}
use Rattle.mojom_ast.specs.declared.token.Sort.{Sort}
use Rattle.mojom_ast.specs.declared.token.Sort.TheVariants as sorts
use Rattle.mojom_ast.specs.declared.names.Identifier.{Identifier}
use Rattle.mojom_ast.specs.declared.names.Number.{Number}
use Rattle.mojom_ast.specs.declared.names.StringLiteral.{StringLiteral}
use Rattle.mojom_ast.specs.declared.names.Name.{Name}
use Rattle.mojom_ast.specs.declared.names.Value.{Value}
use Rattle.mojom_ast.specs.declared.names.Value.TheVariants as values
use Rattle.mojom_ast.specs.declared.attributes.Attribute.{Attribute}
use Rattle.mojom_ast.specs.declared.types.PendingSort.{PendingSort}
use Rattle.mojom_ast.specs.declared.definitions.Definition.{Definition}
use Rattle.mojom_ast.specs.declared.definitions.DefinitionItem.{DefinitionItem}
use Rattle.mojom_ast.specs.declared.definitions.Struct.{Struct}
use Rattle.mojom_ast.specs.declared.definitions.StructMember.{StructMember}
use Rattle.mojom_ast.specs.declared.definitions.StructItem.{StructItem}
use Rattle.mojom_ast.specs.declared.definitions.Field.{Field}
use Rattle.mojom_ast.specs.declared.definitions.Union.{Union}
use Rattle.mojom_ast.specs.declared.definitions.UnionField.{UnionField}
use Rattle.mojom_ast.specs.declared.definitions.Enum.{Enum}
use Rattle.mojom_ast.specs.declared.definitions.Enumerator.{Enumerator}
use Rattle.mojom_ast.specs.declared.definitions.Interface.{Interface}
use Rattle.mojom_ast.specs.declared.definitions.InterfaceMember.{InterfaceMember}
use Rattle.mojom_ast.specs.declared.definitions.InterfaceItem.{InterfaceItem}
use Rattle.mojom_ast.specs.declared.definitions.Method.{Method}
use Rattle.mojom_ast.specs.declared.definitions.Parameter.{Parameter}
use Rattle.mojom_ast.specs.declared.definitions.Const.{Const}
use Rattle.mojom_ast.specs.declared.file.File.{File}
use Rattle.mojom_ast.specs.declared.file.ModuleStatement.{ModuleStatement}
use Rattle.mojom_ast.specs.declared.file.Import.{Import}
use Rattle.mojom_ast.specs.TypeTrees.{BaseTree, ArrayOf, MapOf, PendingOf, TypeTree}

-- what a token holds beside its class

-- the text of an identifier
abbrev pub text_in : Sort → List ℕ
text_in (sorts.Identifier text) = text
text_in _ = []

-- the value of a number
abbrev pub number_in : Sort → ℕ
number_in (sorts.Number n) = n
number_in _ = 0

-- the bytes that a string stands for
abbrev pub bytes_in : Sort → List ℕ
bytes_in (sorts.String bytes) = bytes
bytes_in _ = []

-- Id, where it stands
abbrev pub identifier_of : Token → Identifier
identifier_of t = record { text = text_in t.sort; span = t.span }

-- Number, where it stands
abbrev pub number_of : Token → Number
number_of t = record { value = number_in t.sort; span = t.span }

-- String, where it stands
abbrev pub string_of : Token → StringLiteral
string_of t = record { bytes = bytes_in t.sort; span = t.span }

-- names and values

-- Id (. Id)*
abbrev pub make_name : Identifier × List Identifier → Name
make_name x = record { parts = x.0 ∷ x.1 }

-- true
abbrev pub make_true : Token → Value
make_true t = values.Bool true t.span

-- false
abbrev pub make_false : Token → Value
make_false t = values.Bool false t.span

-- Number, without a sign
abbrev pub make_number : Number → Value
make_number n = values.Number false n.value n.span

-- + Number, where its sign stands
abbrev pub make_plus : Token × Number → Value
make_plus x = values.Number false x.1.value x.0.span

-- - Number, where its sign stands
abbrev pub make_minus : Token × Number → Value
make_minus x = values.Number true x.1.value x.0.span

-- Id (= Val)?
abbrev pub make_attribute : Identifier × Option Value → Attribute
make_attribute x = record { name = x.0; value = x.1 }

-- what stands between two tokens
abbrev pub inner : {A : Type 0} → Token × (A × Token) → A
inner x = x.1.0

-- what stands behind a token
abbrev pub behind : {A : Type 0} → Token × A → A
behind x = x.1

-- types

-- array < Type (, Number)? >
abbrev pub make_array : Token × (Token × (TypeTree × (Option Number × Token))) → BaseTree
make_array x = ArrayOf x.1.1.0.base x.1.1.0.nullable x.1.1.1.0

-- map < Type , Type >
abbrev pub make_map : Token × (Token × (TypeTree × (Token × (TypeTree × Token)))) → BaseTree
make_map x = MapOf x.1.1.0.base x.1.1.0.nullable x.1.1.1.1.0.base x.1.1.1.1.0.nullable

-- one of the four pending keywords < Name >
abbrev pub make_pending : PendingSort × (Token × (Name × Token)) → BaseTree
make_pending x = PendingOf x.0 x.1.1.0

-- Base with or without ? behind it
abbrev pub make_type : BaseTree × Option Token → TypeTree
make_type x = record { base = x.0; nullable = is_some x.1 }

-- definitions

-- const Type Id = Val ;
abbrev pub make_const : Token × (TypeTree × (Identifier × (Token × (Value × Token)))) → Const
make_const x = record { kind = x.1.0; name = x.1.1.0; value = x.1.1.1.1.0 }

-- Attrs? Id (= Val)?
abbrev pub make_enumerator : List Attribute × (Identifier × Option Value) → Enumerator
make_enumerator x = record { attributes = x.0; name = x.1.0; value = x.1.1 }

-- enum Id { list of Enumerator } ;
abbrev pub make_enum : Token × (Identifier × (Token × (List Enumerator × (Token × Token)))) → Enum
make_enum x = record { name = x.1.0; enumerators = x.1.1.1.0 }

-- Type Id Ord? (= Val)? ;
abbrev pub make_field : TypeTree × (Identifier × (Option Number × (Option Value × Token))) → Field
make_field x = record { kind = x.0; name = x.1.0; ordinal = x.1.1.0; default = x.1.1.1.0 }

-- Attrs? one of Const, Enum, Field
abbrev pub make_struct_member : List Attribute × StructItem → StructMember
make_struct_member x = record { attributes = x.0; item = x.1 }

-- struct Id { members } ;
abbrev pub make_struct : Token × (Identifier × (Token × (List StructMember × (Token × Token)))) → Struct
make_struct x = record { name = x.1.0; members = x.1.1.1.0 }

-- Attrs? Type Id Ord? ;
abbrev pub make_union_field : List Attribute × (TypeTree × (Identifier × (Option Number × Token))) → UnionField
make_union_field x = record { attributes = x.0; kind = x.1.0; name = x.1.1.0; ordinal = x.1.1.1.0 }

-- union Id { fields } ;
abbrev pub make_union : Token × (Identifier × (Token × (List UnionField × (Token × Token)))) → Union
make_union x = record { name = x.1.0; fields = x.1.1.1.0 }

-- Attrs? Type Id Ord?
abbrev pub make_parameter : List Attribute × (TypeTree × (Identifier × Option Number)) → Parameter
make_parameter x = record { attributes = x.0; kind = x.1.0; name = x.1.1.0; ordinal = x.1.1.1 }

-- Id Ord? Params (=> Params)? ;
abbrev pub make_method : Identifier × (Option Number × (List Parameter × (Option (List Parameter) × Token))) → Method
make_method x = record { name = x.0; ordinal = x.1.0; request = x.1.1.0; response = x.1.1.1.0 }

-- Attrs? one of Const, Enum, Method
abbrev pub make_interface_member : List Attribute × InterfaceItem → InterfaceMember
make_interface_member x = record { attributes = x.0; item = x.1 }

-- interface Id { members } ;
abbrev pub make_interface : Token × (Identifier × (Token × (List InterfaceMember × (Token × Token)))) → Interface
make_interface x = record { name = x.1.0; members = x.1.1.1.0 }

-- Attrs? one of Struct, Union, Enum, Interface, Const
abbrev pub make_definition : List Attribute × DefinitionItem → Definition
make_definition x = record { attributes = x.0; item = x.1 }

-- files

-- Attrs? module Name ;
abbrev pub make_module : List Attribute × Name → ModuleStatement
make_module x = record { attributes = x.0; name = x.1 }

-- Attrs? import String ;
abbrev pub make_import : List Attribute × StringLiteral → Import
make_import x = record { attributes = x.0; path = x.1 }

-- (Attrs? module Name ;)? (Attrs? import String ;)* Def*
abbrev pub make_file : Option ModuleStatement × (List Import × List Definition) → File
make_file x = record { module_statement = x.0; imports = x.1.0; definitions = x.1.1 }
