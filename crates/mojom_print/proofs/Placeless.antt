-- A text says nothing of places.
use Rattle.std.proofs.Common.{◌≡◌, ℕ, ◌+◌, List, [], ◌∷◌, ◌++◌, Option, Some, None, refl, sym, ◌∙◌, ap, codes}
use Rattle.std.specs.Prelude.{map}
use Rattle.std.specs.List.{flat_map, join_by}
use Rattle.std.specs.Option.{option_map}
use Rattle.mojom_ast.specs.declared.names.Number.{Number}
use Rattle.mojom_ast.specs.declared.names.Name.{Name}
use Rattle.mojom_ast.specs.declared.names.Value.{Value}
use Rattle.mojom_ast.specs.declared.names.Value.TheVariants as values
use Rattle.mojom_ast.specs.declared.attributes.Attribute.{Attribute}
use Rattle.mojom_ast.specs.declared.definitions.Definition.{Definition}
use Rattle.mojom_ast.specs.declared.definitions.DefinitionItem.{DefinitionItem}
use Rattle.mojom_ast.specs.declared.definitions.DefinitionItem.TheVariants as items
use Rattle.mojom_ast.specs.declared.definitions.Struct.{Struct}
use Rattle.mojom_ast.specs.declared.definitions.StructMember.{StructMember}
use Rattle.mojom_ast.specs.declared.definitions.StructItem.{StructItem}
use Rattle.mojom_ast.specs.declared.definitions.StructItem.TheVariants as struct_items
use Rattle.mojom_ast.specs.declared.definitions.Field.{Field}
use Rattle.mojom_ast.specs.declared.definitions.Union.{Union}
use Rattle.mojom_ast.specs.declared.definitions.UnionField.{UnionField}
use Rattle.mojom_ast.specs.declared.definitions.Enum.{Enum}
use Rattle.mojom_ast.specs.declared.definitions.Enumerator.{Enumerator}
use Rattle.mojom_ast.specs.declared.definitions.Interface.{Interface}
use Rattle.mojom_ast.specs.declared.definitions.InterfaceMember.{InterfaceMember}
use Rattle.mojom_ast.specs.declared.definitions.InterfaceItem.{InterfaceItem}
use Rattle.mojom_ast.specs.declared.definitions.InterfaceItem.TheVariants as interface_items
use Rattle.mojom_ast.specs.declared.definitions.Method.{Method}
use Rattle.mojom_ast.specs.declared.definitions.Parameter.{Parameter}
use Rattle.mojom_ast.specs.declared.definitions.Const.{Const}
use Rattle.mojom_ast.specs.declared.file.File.{File}
use Rattle.mojom_ast.specs.declared.file.ModuleStatement.{ModuleStatement}
use Rattle.mojom_ast.specs.declared.file.Import.{Import}
use Rattle.mojom_ast.specs.TypeTrees.{BaseTree, Named, ArrayOf, MapOf, HandleOf, PendingOf}
use Rattle.mojom_print.specs.Words.{name_text, value_text, ordinal_text, assigned_text, indent}
use Rattle.mojom_print.specs.Attributes.{given_text, attribute_text, bracketed_text, attribute_line, attributes_before}
use Rattle.mojom_print.specs.Types.{count_text, base_text}
use Rattle.mojom_print.specs.Definitions.{const_text, enumerator_text, enum_text, field_text, struct_item_text, struct_member_text, struct_text, union_field_text, union_text}
use Rattle.mojom_print.specs.Interfaces.{parameter_text, parameters_text, response_text, method_text, interface_item_text, interface_member_text, interface_text}
use Rattle.mojom_print.specs.FileText.{module_text, import_text, definition_item_text, definition_text, file_text}
use Rattle.mojom_print.specs.Unplaced.{identifier_unplaced, number_unplaced, name_unplaced, value_unplaced, attribute_unplaced, base_unplaced, const_unplaced, enumerator_unplaced, enum_unplaced, field_unplaced, struct_item_unplaced, struct_member_unplaced, struct_unplaced, union_field_unplaced, union_unplaced, parameter_unplaced, method_unplaced, interface_item_unplaced, interface_member_unplaced, interface_unplaced, definition_item_unplaced, definition_unplaced, module_unplaced, import_unplaced, unplaced}

each_same : {A : Type 0} (text : A → List ℕ) (off : A → A) → ((x : A) → text (off x) ≡ text x) → (xs : List A) → flat_map text (map off xs) ≡ flat_map text xs
each_same text off same [] = refl
each_same text off same (x ∷ xs) =
    ap (λ (l : List ℕ). l ++ flat_map text (map off xs)) (same x) ∙ ap (λ (l : List ℕ). text x ++ l) (each_same text off same xs)

parted_same : {A : Type 0} (mark : List ℕ) (text : A → List ℕ) (off : A → A) → ((x : A) → text (off x) ≡ text x) → (xs : List A)
    → join_by text mark (map off xs) ≡ join_by text mark xs
parted_same mark text off same [] = refl
parted_same mark text off same (x ∷ xs) =
    ap (λ (l : List ℕ). l ++ flat_map (λ y. mark ++ text y) (map off xs)) (same x)
    ∙ ap (λ (l : List ℕ). text x ++ l) (each_same (λ y. mark ++ text y) off (λ y. ap (λ (l : List ℕ). mark ++ l) (same y)) xs)

name_same : (x : Name) → name_text (name_unplaced x) ≡ name_text x
unfolding name_text
name_same x = parted_same (codes ".") (λ part. part.text) identifier_unplaced (λ y. refl) x.parts

value_same : (x : Value) → value_text (value_unplaced x) ≡ value_text x
value_same (values.String s) = refl
value_same (values.Bool value span) = refl
value_same (values.Number negative magnitude span) = refl
value_same (values.Name name) = name_same name

ordinal_same : (o : Option Number) → ordinal_text (option_map number_unplaced o) ≡ ordinal_text o
ordinal_same None = refl
ordinal_same (Some n) = refl

assigned_same : (o : Option Value) → assigned_text (option_map value_unplaced o) ≡ assigned_text o
assigned_same None = refl
assigned_same (Some v) = ap (λ (l : List ℕ). codes " = " ++ l) (value_same v)

given_same : (o : Option Value) → given_text (option_map value_unplaced o) ≡ given_text o
given_same None = refl
given_same (Some v) = ap (λ (l : List ℕ). codes "=" ++ l) (value_same v)

attribute_same : (x : Attribute) → attribute_text (attribute_unplaced x) ≡ attribute_text x
attribute_same x = ap (λ (l : List ℕ). x.name.text ++ l) (given_same x.value)

bracketed_same : (xs : List Attribute) → bracketed_text (map attribute_unplaced xs) ≡ bracketed_text xs
unfolding bracketed_text
bracketed_same xs = ap (λ (l : List ℕ). codes "[" ++ (l ++ codes "]")) (parted_same (codes ", ") attribute_text attribute_unplaced attribute_same xs)

line_same : (depth : ℕ) (xs : List Attribute) → attribute_line depth (map attribute_unplaced xs) ≡ attribute_line depth xs
line_same depth [] = refl
line_same depth (x ∷ xs) = ap (λ (l : List ℕ). indent depth ++ (l ++ codes "\n")) (bracketed_same (x ∷ xs))

before_same : (xs : List Attribute) → attributes_before (map attribute_unplaced xs) ≡ attributes_before xs
before_same [] = refl
before_same (x ∷ xs) = ap (λ (l : List ℕ). l ++ codes " ") (bracketed_same (x ∷ xs))

count_same : (o : Option Number) → count_text (option_map number_unplaced o) ≡ count_text o
count_same None = refl
count_same (Some n) = refl

base_same : (x : BaseTree) → base_text (base_unplaced x) ≡ base_text x
base_same (Named name) = name_same name
base_same (ArrayOf of n c) = let a = base_same of in let b = count_same c in cc
base_same (MapOf k n v m) = let a = base_same k in let b = base_same v in cc
base_same (HandleOf sort) = refl
base_same (PendingOf sort name) = let a = name_same name in cc

const_same : (depth : ℕ) (x : Const) → const_text depth (const_unplaced x) ≡ const_text depth x
unfolding const_text
const_same depth x = let a = base_same x.kind.base in let b = value_same x.value in cc

enumerator_same : (depth : ℕ) (x : Enumerator) → enumerator_text depth (enumerator_unplaced x) ≡ enumerator_text depth x
unfolding enumerator_text
enumerator_same depth x = let a = line_same depth x.attributes in let b = assigned_same x.value in cc

enum_same : (depth : ℕ) (x : Enum) → enum_text depth (enum_unplaced x) ≡ enum_text depth x
unfolding enum_text
enum_same depth x = let a = each_same (enumerator_text (depth + 1)) enumerator_unplaced (enumerator_same (depth + 1)) x.enumerators in cc

field_same : (x : Field) → field_text (field_unplaced x) ≡ field_text x
unfolding field_text
field_same x = let a = base_same x.kind.base in let b = ordinal_same x.ordinal in let d = assigned_same x.default in cc

struct_item_same : (x : StructItem) → struct_item_text (struct_item_unplaced x) ≡ struct_item_text x
struct_item_same (struct_items.Const x) = const_same 1 x
struct_item_same (struct_items.Enum x) = enum_same 1 x
struct_item_same (struct_items.Field x) = field_same x

struct_member_same : (x : StructMember) → struct_member_text (struct_member_unplaced x) ≡ struct_member_text x
struct_member_same x = let a = line_same 1 x.attributes in let b = struct_item_same x.item in cc

struct_same : (x : Struct) → struct_text (struct_unplaced x) ≡ struct_text x
unfolding struct_text
struct_same x = let a = each_same struct_member_text struct_member_unplaced struct_member_same x.members in cc

union_field_same : (x : UnionField) → union_field_text (union_field_unplaced x) ≡ union_field_text x
unfolding union_field_text
union_field_same x = let a = line_same 1 x.attributes in let b = base_same x.kind.base in let d = ordinal_same x.ordinal in cc

union_same : (x : Union) → union_text (union_unplaced x) ≡ union_text x
unfolding union_text
union_same x = let a = each_same union_field_text union_field_unplaced union_field_same x.fields in cc

parameter_same : (x : Parameter) → parameter_text (parameter_unplaced x) ≡ parameter_text x
unfolding parameter_text
parameter_same x = let a = before_same x.attributes in let b = base_same x.kind.base in let d = ordinal_same x.ordinal in cc

parameters_same : (xs : List Parameter) → parameters_text (map parameter_unplaced xs) ≡ parameters_text xs
unfolding parameters_text
parameters_same xs = ap (λ (l : List ℕ). codes "(" ++ (l ++ codes ")")) (parted_same (codes ", ") parameter_text parameter_unplaced parameter_same xs)

response_same : (o : Option (List Parameter)) → response_text (option_map (map parameter_unplaced) o) ≡ response_text o
response_same None = refl
response_same (Some xs) = ap (λ (l : List ℕ). codes " => " ++ l) (parameters_same xs)

method_same : (x : Method) → method_text (method_unplaced x) ≡ method_text x
unfolding method_text
method_same x = let a = ordinal_same x.ordinal in let b = parameters_same x.request in let d = response_same x.response in cc

interface_item_same : (x : InterfaceItem) → interface_item_text (interface_item_unplaced x) ≡ interface_item_text x
interface_item_same (interface_items.Const x) = const_same 1 x
interface_item_same (interface_items.Enum x) = enum_same 1 x
interface_item_same (interface_items.Method x) = method_same x

interface_member_same : (x : InterfaceMember) → interface_member_text (interface_member_unplaced x) ≡ interface_member_text x
interface_member_same x = let a = line_same 1 x.attributes in let b = interface_item_same x.item in cc

interface_same : (x : Interface) → interface_text (interface_unplaced x) ≡ interface_text x
unfolding interface_text
interface_same x = let a = each_same interface_member_text interface_member_unplaced interface_member_same x.members in cc

definition_item_same : (x : DefinitionItem) → definition_item_text (definition_item_unplaced x) ≡ definition_item_text x
definition_item_same (items.Struct x) = struct_same x
definition_item_same (items.Union x) = union_same x
definition_item_same (items.Enum x) = enum_same 0 x
definition_item_same (items.Interface x) = interface_same x
definition_item_same (items.Const x) = const_same 0 x

definition_same : (x : Definition) → definition_text (definition_unplaced x) ≡ definition_text x
definition_same x = let a = line_same 0 x.attributes in let b = definition_item_same x.item in cc

module_same : (o : Option ModuleStatement) → module_text (option_map module_unplaced o) ≡ module_text o
module_same None = refl
module_same (Some x) = let a = line_same 0 x.attributes in let b = name_same x.name in cc

import_same : (x : Import) → import_text (import_unplaced x) ≡ import_text x
unfolding import_text
import_same x = let a = line_same 0 x.attributes in cc

file_same : (x : File) → file_text (unplaced x) ≡ file_text x
unfolding file_text unplaced
file_same x =
    let a = module_same x.module_statement in let b = each_same import_text import_unplaced import_same x.imports in
    let d = each_same definition_text definition_unplaced definition_same x.definitions in cc

-- trees that differ in places alone have one text
pub same_text : (tree other : File) → unplaced other ≡ unplaced tree → file_text other ≡ file_text tree
same_text tree other e = sym (file_same other) ∙ ap file_text e ∙ file_same tree
