-- The strings that the values of a parsed file are, are UTF-8.
use Rattle.std.proofs.Common.{◌≡◌, ℕ, List, [], ◌∷◌, ◌++◌, Option, Some, None, subst}
use Rattle.std.specs.List.{AllByRecursion, flat_map}
use Rattle.mojom_ast.specs.declared.attributes.Attribute.{Attribute}
use Rattle.mojom_ast.specs.declared.definitions.Const.{Const}
use Rattle.mojom_ast.specs.declared.definitions.Definition.{Definition}
use Rattle.mojom_ast.specs.declared.definitions.DefinitionItem.{DefinitionItem}
use Rattle.mojom_ast.specs.declared.definitions.DefinitionItem.TheVariants as items
use Rattle.mojom_ast.specs.declared.definitions.Enum.{Enum}
use Rattle.mojom_ast.specs.declared.definitions.Enumerator.{Enumerator}
use Rattle.mojom_ast.specs.declared.definitions.Field.{Field}
use Rattle.mojom_ast.specs.declared.definitions.Interface.{Interface}
use Rattle.mojom_ast.specs.declared.definitions.InterfaceItem.{InterfaceItem}
use Rattle.mojom_ast.specs.declared.definitions.InterfaceItem.TheVariants as interface_items
use Rattle.mojom_ast.specs.declared.definitions.InterfaceMember.{InterfaceMember}
use Rattle.mojom_ast.specs.declared.definitions.Struct.{Struct}
use Rattle.mojom_ast.specs.declared.definitions.StructItem.{StructItem}
use Rattle.mojom_ast.specs.declared.definitions.StructItem.TheVariants as struct_items
use Rattle.mojom_ast.specs.declared.definitions.StructMember.{StructMember}
use Rattle.mojom_ast.specs.declared.file.File.{File}
use Rattle.mojom_ast.specs.declared.names.Value.{Value}
use Rattle.mojom_files.specs.declared.named_file.NamedFile.{NamedFile}
use Rattle.mojom_ast.specs.declared.names.Value.TheVariants as values
use Rattle.mojom_ast.specs.declared.token.Sort.{Sort}
use Rattle.mojom_ast.specs.declared.token.Token.{Token}
use Rattle.mojom_ast.specs.Grammar.{file}
use Rattle.mojom_files.specs.Definitions.{definitions_of, identifier_of, in_interface, in_struct, interface_item, module_of, nested_in}
use Rattle.mojom_files.specs.Definitions.{struct_item, with_nested}
use Rattle.mj_base.specs.Names.{named_in}
use Rattle.mojom_print.proofs.DefinitionRules.{prints_file}
use Rattle.mojom_print.proofs.Prints.{AllLexical, Printed, option_sorts}
use Rattle.mojom_print.proofs.Retold.{comma_lexical, tokens_lexical}
use Rattle.mojom_print.proofs.CommaLists.{comma}
use Rattle.mojom_print.proofs.Sorts.{assigned_sorts, attributes_sorts, const_sorts, definition_item_sorts, definition_sorts, enum_sorts, enumerator_sorts}
use Rattle.mojom_print.proofs.Sorts.{field_sorts, file_sorts, import_sorts, interface_item_sorts, interface_member_sorts, interface_sorts, module_sorts}
use Rattle.mojom_print.proofs.Sorts.{ordinal_sorts, struct_item_sorts, struct_member_sorts, struct_sorts, type_sorts, value_sorts}
use Rattle.mojom_print.specs.Unplaced.{unplaced}
use Rattle.mojom_compile.specs.Compiled.{IsParsed}
use Rattle.schema_laws.proofs.Each.{all_flat, all_so}
use Rattle.sound_laws.specs.Strings.{ValueText, OptionText, EnumText, MemberText, ItemText, DefinedText, FileText}
use Rattle.mojom_compile.specs.Schemas.{AreTreesOf}
use Rattle.mojom_compile.specs.declared.source.Source.{Source}

-- the strings of a member of an interface
abbrev InterfaceText : InterfaceItem → Type 0
InterfaceText (interface_items.Const c) = ValueText c.value
InterfaceText (interface_items.Enum e) = EnumText e
InterfaceText (interface_items.Method m) = Unit {0}

-- sorts

left : (xs ys : List Sort) → AllLexical (xs ++ ys) → AllLexical xs
left [] ys h = tt
left (x ∷ xs) ys h = (h.0, left xs ys h.1)

right : (xs ys : List Sort) → AllLexical (xs ++ ys) → AllLexical ys
right [] ys h = h
right (x ∷ xs) ys h = right xs ys h.1

each : {A : Type 0} (f : A → List Sort) (P : A → Type 0) → ((x : A) → AllLexical (f x) → P x) → (xs : List A) → AllLexical (flat_map f xs)
    → AllByRecursion P xs
each f P is [] h = tt
each f P is (x ∷ xs) h = (is x (left (f x) (flat_map f xs) h), each f P is xs (right (f x) (flat_map f xs) h))

-- values

value_text : (value : Value) → AllLexical (value_sorts value) → ValueText value
value_text (values.String written) h = h.0.text
value_text (values.Bool value span) h = tt
value_text (values.Number negative magnitude span) h = tt
value_text (values.Name name) h = tt

option_text : (value : Option Value) → AllLexical (option_sorts assigned_sorts value) → OptionText value
option_text None h = tt
option_text (Some value) h = value_text value h.1

const_text : (c : Const) → AllLexical (const_sorts c) → ValueText c.value
unfolding const_sorts
const_text c h = value_text c.value (left (value_sorts c.value) _ (right (type_sorts c.kind) _ h.1).1.1)

field_text : (f : Field) → AllLexical (field_sorts f) → OptionText f.default
unfolding field_sorts
field_text f h =
    let named = right (type_sorts f.kind) _ h in
    option_text f.default (left (option_sorts assigned_sorts f.default) _ (right (option_sorts ordinal_sorts f.ordinal) _ named.1))

enumerator_text : (e : Enumerator) → AllLexical (enumerator_sorts e) → OptionText e.value
unfolding enumerator_sorts
enumerator_text e h = option_text e.value (right (attributes_sorts e.attributes) _ h).1

enum_text : (e : Enum) → AllLexical (enum_sorts e) → EnumText e
unfolding enum_sorts
enum_text e h = each (λ (x : Enumerator). enumerator_sorts x ++ comma) (λ (x : Enumerator). OptionText x.value)
    (λ x l. enumerator_text x (left (enumerator_sorts x) comma l)) e.enumerators
    (left (flat_map (λ (x : Enumerator). enumerator_sorts x ++ comma) e.enumerators) _ h.1.1.1)

member_text : (item : StructItem) → AllLexical (struct_item_sorts item) → MemberText item
member_text (struct_items.Const c) h = const_text c h
member_text (struct_items.Enum e) h = enum_text e h
member_text (struct_items.Field f) h = field_text f h

interface_text : (item : InterfaceItem) → AllLexical (interface_item_sorts item) → InterfaceText item
interface_text (interface_items.Const c) h = const_text c h
interface_text (interface_items.Enum e) h = enum_text e h
interface_text (interface_items.Method m) h = tt

struct_text : (s : Struct) → AllLexical (struct_sorts s) → AllByRecursion (λ (m : StructMember). MemberText m.item) s.members
unfolding struct_sorts
struct_text s h = each struct_member_sorts (λ (m : StructMember). MemberText m.item)
    (λ m l. member_text m.item (right (attributes_sorts m.attributes) (struct_item_sorts m.item) l)) s.members
    (left (flat_map struct_member_sorts s.members) _ h.1.1.1)

members_text : (i : Interface) → AllLexical (interface_sorts i) → AllByRecursion (λ (m : InterfaceMember). InterfaceText m.item) i.members
unfolding interface_sorts
members_text i h = each interface_member_sorts (λ (m : InterfaceMember). InterfaceText m.item)
    (λ m l. interface_text m.item (right (attributes_sorts m.attributes) (interface_item_sorts m.item) l)) i.members
    (left (flat_map interface_member_sorts i.members) _ h.1.1.1)

-- definitions

item_text : (item : DefinitionItem) → AllLexical (definition_item_sorts item) → ItemText item
item_text (items.Struct s) h = struct_text s h
item_text (items.Union u) h = tt
item_text (items.Enum e) h = enum_text e h
item_text (items.Interface i) h = tt
item_text (items.Const c) h = const_text c h

in_struct_text : (outer : List ℕ) (attributes : List Attribute) (item : StructItem) → MemberText item
    → AllByRecursion DefinedText (struct_item outer attributes item)
in_struct_text outer attributes (struct_items.Const c) h = (h, tt)
in_struct_text outer attributes (struct_items.Enum e) h = (h, tt)
in_struct_text outer attributes (struct_items.Field f) h = tt

in_interface_text : (outer : List ℕ) (attributes : List Attribute) (item : InterfaceItem) → InterfaceText item
    → AllByRecursion DefinedText (interface_item outer attributes item)
in_interface_text outer attributes (interface_items.Const c) h = (h, tt)
in_interface_text outer attributes (interface_items.Enum e) h = (h, tt)
in_interface_text outer attributes (interface_items.Method m) h = tt

nested_text : (outer : List ℕ) (item : DefinitionItem) → AllLexical (definition_item_sorts item) → AllByRecursion DefinedText (nested_in outer item)
nested_text outer (items.Struct s) h = all_flat DefinedText (in_struct outer) s.members
    (all_so (λ (m : StructMember). MemberText m.item) (λ (m : StructMember). AllByRecursion DefinedText (in_struct outer m))
    (λ m is. in_struct_text outer m.attributes m.item is) s.members (struct_text s h))
nested_text outer (items.Interface i) h = all_flat DefinedText (in_interface outer) i.members
    (all_so (λ (m : InterfaceMember). InterfaceText m.item) (λ (m : InterfaceMember). AllByRecursion DefinedText (in_interface outer m))
    (λ m is. in_interface_text outer m.attributes m.item is) i.members (members_text i h))
nested_text outer (items.Union u) h = tt
nested_text outer (items.Enum e) h = tt
nested_text outer (items.Const c) h = tt

definition_text : (outer : Option (List ℕ)) (x : Definition) → AllLexical (definition_sorts x) → AllByRecursion DefinedText (with_nested outer x)
definition_text outer x h =
    let item = right (attributes_sorts x.attributes) (definition_item_sorts x.item) h in
    (item_text x.item item, nested_text (named_in outer (identifier_of x.item).text) x.item item)

file_text : (tree : File) → AllLexical (file_sorts tree) → AllByRecursion DefinedText (definitions_of tree)
unfolding file_sorts
file_text tree h =
    let behind = right (flat_map import_sorts tree.imports) _ (right (option_sorts module_sorts tree.module_statement) _ h) in
    let outer = module_of tree.module_statement in
    all_flat DefinedText (with_nested outer) tree.definitions
    (each definition_sorts (λ (x : Definition). AllByRecursion DefinedText (with_nested outer x)) (definition_text outer) tree.definitions behind)

-- the strings of the definitions of a file that has a tree
parsed_text : (bytes : List ℕ) (tree : File) → IsParsed bytes tree → AllByRecursion DefinedText (definitions_of tree)
parsed_text bytes tree is =
    let K : File → List Token → Type 0 = λ f rest. (rest ≡ []) × (f ≡ tree) in
    let n = is.spelled.0 in
    let p : Printed (file n) unplaced file_sorts K = (prints_file n comma_lexical).printed K is.tokens (tokens_lexical bytes is.tokens is.are) is.spelled.1 in
    file_text tree (subst (λ (t : File). AllLexical (file_sorts t)) p.next.1 p.good)

-- the strings of files that have trees
pub trees_text : (sources : List Source) (files : List NamedFile) → AreTreesOf sources files → AllByRecursion FileText files
trees_text [] [] trees = tt
trees_text [] (file ∷ files) trees = absurd trees
trees_text (source ∷ sources) [] trees = absurd trees
trees_text (source ∷ sources) (file ∷ files) trees = (parsed_text source.bytes file.tree trees.0.parsed, trees_text sources files trees.1)
