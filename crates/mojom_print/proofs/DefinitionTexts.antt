-- The texts of definitions and files are the tokens that they show.
use Rattle.std.proofs.Common.{ℕ, ◌+◌, List, [], ◌∷◌, ◌++◌, Option, Some, None, refl, sym, append_assoc, codes}
use Rattle.std.specs.List.{join_by}
use Rattle.mojom_ast.specs.declared.token.Sort.TheVariants as sorts
use Rattle.mojom_ast.specs.declared.token.Symbol.TheVariants.{Comma}
use Rattle.mojom_ast.specs.declared.definitions.Definition.{Definition}
use Rattle.mojom_ast.specs.declared.definitions.DefinitionItem.{DefinitionItem}
use Rattle.mojom_ast.specs.declared.definitions.DefinitionItem.TheVariants as items
use Rattle.mojom_ast.specs.declared.definitions.Struct.{Struct}
use Rattle.mojom_ast.specs.declared.definitions.StructMember.{StructMember}
use Rattle.mojom_ast.specs.declared.definitions.StructItem.{StructItem}
use Rattle.mojom_ast.specs.declared.definitions.StructItem.TheVariants as struct_items
use Rattle.mojom_ast.specs.declared.definitions.Field.{Field}
use Rattle.mojom_ast.specs.declared.definitions.Union.{Union}
use Rattle.mojom_ast.specs.declared.definitions.UnionField.{UnionField}
use Rattle.mojom_ast.specs.declared.definitions.Enum.{Enum}
use Rattle.mojom_ast.specs.declared.definitions.Enumerator.{Enumerator}
use Rattle.mojom_ast.specs.declared.definitions.Interface.{Interface}
use Rattle.mojom_ast.specs.declared.definitions.InterfaceMember.{InterfaceMember}
use Rattle.mojom_ast.specs.declared.definitions.InterfaceItem.{InterfaceItem}
use Rattle.mojom_ast.specs.declared.definitions.InterfaceItem.TheVariants as interface_items
use Rattle.mojom_ast.specs.declared.definitions.Method.{Method}
use Rattle.mojom_ast.specs.declared.definitions.Parameter.{Parameter}
use Rattle.mojom_ast.specs.declared.definitions.Const.{Const}
use Rattle.mojom_ast.specs.declared.file.File.{File}
use Rattle.mojom_ast.specs.declared.file.ModuleStatement.{ModuleStatement}
use Rattle.mojom_ast.specs.declared.file.Import.{Import}
use Rattle.mojom_lexer.specs.Bytes.{goes_on}
use Rattle.mojom_print.specs.Definitions.{const_text, enumerator_text, enum_text, field_text, struct_item_text, struct_member_text, struct_text, union_field_text, union_text}
use Rattle.mojom_print.specs.Interfaces.{parameter_text, parameters_text, response_text, method_text, interface_item_text, interface_member_text, interface_text}
use Rattle.mojom_print.specs.FileText.{module_text, import_text, definition_item_text, definition_text, file_text}
use Rattle.mojom_print.proofs.Prints.{option_sorts}
use Rattle.mojom_print.proofs.CommaLists.{comma, between}
use Rattle.mojom_print.proofs.Lexes.{Tells, none, ◌then◌, tells_sorts, fresh, nothing, blanks, each, with_marks}
use Rattle.mojom_print.proofs.WordTexts.{identifier_tells}
use Rattle.mojom_print.proofs.StringTexts.{string_tells}
use Rattle.mojom_print.proofs.SignTexts.{end_line, comma_line, comma_blank, open_paren, close_paren, open_block, close_block, equals_blanks, arrow_blanks, const_blank, enum_blank, struct_blank, union_blank, interface_blank, module_blank, import_blank, indent_tells}
use Rattle.mojom_print.proofs.Sorts.{const_sorts, enumerator_sorts, enum_sorts, field_sorts, struct_item_sorts, struct_member_sorts, struct_sorts, union_field_sorts, union_sorts, parameter_sorts, parameters_sorts, response_sorts, method_sorts, interface_item_sorts, interface_member_sorts, interface_sorts, definition_item_sorts, definition_sorts, module_sorts, import_sorts, file_sorts, attributes_sorts, assigned_sorts, identifier_sorts}
use Rattle.mojom_print.proofs.ValueTexts.{name_tells, value_tells, ordinal_tells, assigned_tells, attribute_line_tells, attributes_before_tells, declared_then}

const_tells : (depth : ℕ) (c : Const) → Tells none none (const_text depth c) (const_sorts c)
unfolding const_text const_sorts
const_tells depth c =
    indent_tells depth then (const_blank then declared_then c.kind c.name _ (equals_blanks refl then (fresh (value_tells c.value) then end_line refl)))

enumerator_tells : (depth : ℕ) (e : Enumerator) → Tells none none (enumerator_text depth e) (enumerator_sorts e ++ comma)
unfolding enumerator_text enumerator_sorts
enumerator_tells depth e =
    tells_sorts (attributes_sorts e.attributes ++ (identifier_sorts e.name ++ (option_sorts assigned_sorts e.value ++ comma)))
    ((attributes_sorts e.attributes ++ (identifier_sorts e.name ++ option_sorts assigned_sorts e.value)) ++ comma)
    (sym (append_assoc (attributes_sorts e.attributes) (identifier_sorts e.name ++ option_sorts assigned_sorts e.value) comma))
    (attribute_line_tells depth e.attributes then (indent_tells depth then (identifier_tells e.name.text then (assigned_tells e.value then comma_line refl))))

enum_tells : (depth : ℕ) (e : Enum) → Tells none none (enum_text depth e) (enum_sorts e)
unfolding enum_text enum_sorts
enum_tells depth e =
    indent_tells depth then (enum_blank then
    (identifier_tells e.name.text then
    (open_block refl then (each (enumerator_text (depth + 1)) (λ x. enumerator_sorts x ++ comma) (enumerator_tells (depth + 1)) e.enumerators then
    (indent_tells depth then close_block refl)))))

two_blanks : Tells none none (codes "  ") []
two_blanks = blanks 32 (32 ∷ []) refl refl

field_tells : (f : Field) → Tells none none (field_text f) (field_sorts f)
unfolding field_text field_sorts
field_tells f = two_blanks then declared_then f.kind f.name _ (ordinal_tells f.ordinal then (assigned_tells f.default then end_line refl))

struct_item_tells : (x : StructItem) → Tells none none (struct_item_text x) (struct_item_sorts x)
struct_item_tells (struct_items.Const x) = const_tells 1 x
struct_item_tells (struct_items.Enum x) = enum_tells 1 x
struct_item_tells (struct_items.Field x) = field_tells x

struct_member_tells : (x : StructMember) → Tells none none (struct_member_text x) (struct_member_sorts x)
struct_member_tells x = attribute_line_tells 1 x.attributes then struct_item_tells x.item

struct_tells : (x : Struct) → Tells none none (struct_text x) (struct_sorts x)
unfolding struct_text struct_sorts
struct_tells x =
    struct_blank then (identifier_tells x.name.text then
    (open_block refl then (each struct_member_text struct_member_sorts struct_member_tells x.members then close_block refl)))

union_field_tells : (f : UnionField) → Tells none none (union_field_text f) (union_field_sorts f)
unfolding union_field_text union_field_sorts
union_field_tells f = attribute_line_tells 1 f.attributes then (two_blanks then declared_then f.kind f.name _ (ordinal_tells f.ordinal then end_line refl))

union_tells : (x : Union) → Tells none none (union_text x) (union_sorts x)
unfolding union_text union_sorts
union_tells x =
    union_blank then (identifier_tells x.name.text then
    (open_block refl then (each union_field_text union_field_sorts union_field_tells x.fields then close_block refl)))

parameter_tells : (p : Parameter) → Tells none goes_on (parameter_text p) (parameter_sorts p)
unfolding parameter_text parameter_sorts
parameter_tells p = attributes_before_tells p.attributes then declared_then p.kind p.name _ (ordinal_tells p.ordinal)

parameter_list_tells : (ps : List Parameter) → Tells none goes_on (join_by parameter_text (codes ", ") ps) (between parameter_sorts ps)
parameter_list_tells [] = fresh nothing
parameter_list_tells (x ∷ xs) = with_marks goes_on (codes ", ") (sorts.Symbol Comma) parameter_text parameter_sorts (comma_blank refl) parameter_tells x xs

parameters_tell : (ps : List Parameter) → Tells goes_on none (parameters_text ps) (parameters_sorts ps)
unfolding parameters_text parameters_sorts
parameters_tell ps = open_paren refl then (parameter_list_tells ps then close_paren refl)

response_tells : (o : Option (List Parameter)) → Tells none none (response_text o) (option_sorts response_sorts o)
response_tells None = nothing
response_tells (Some ps) = arrow_blanks refl then fresh (parameters_tell ps)

method_tells : (m : Method) → Tells none none (method_text m) (method_sorts m)
unfolding method_text method_sorts
method_tells m =
    two_blanks then (identifier_tells m.name.text then
    (ordinal_tells m.ordinal then (parameters_tell m.request then (response_tells m.response then end_line refl))))

interface_item_tells : (x : InterfaceItem) → Tells none none (interface_item_text x) (interface_item_sorts x)
interface_item_tells (interface_items.Const x) = const_tells 1 x
interface_item_tells (interface_items.Enum x) = enum_tells 1 x
interface_item_tells (interface_items.Method x) = method_tells x

interface_member_tells : (x : InterfaceMember) → Tells none none (interface_member_text x) (interface_member_sorts x)
interface_member_tells x = attribute_line_tells 1 x.attributes then interface_item_tells x.item

interface_tells : (x : Interface) → Tells none none (interface_text x) (interface_sorts x)
unfolding interface_text interface_sorts
interface_tells x =
    interface_blank then (identifier_tells x.name.text then
    (open_block refl then (each interface_member_text interface_member_sorts interface_member_tells x.members then close_block refl)))

definition_item_tells : (x : DefinitionItem) → Tells none none (definition_item_text x) (definition_item_sorts x)
definition_item_tells (items.Struct x) = struct_tells x
definition_item_tells (items.Union x) = union_tells x
definition_item_tells (items.Enum x) = enum_tells 0 x
definition_item_tells (items.Interface x) = interface_tells x
definition_item_tells (items.Const x) = const_tells 0 x

definition_tells : (x : Definition) → Tells none none (definition_text x) (definition_sorts x)
definition_tells x = attribute_line_tells 0 x.attributes then definition_item_tells x.item

module_tells : (o : Option ModuleStatement) → Tells none none (module_text o) (option_sorts module_sorts o)
module_tells None = nothing
module_tells (Some m) = attribute_line_tells 0 m.attributes then (module_blank then (name_tells m.name then end_line refl))

import_tells : (i : Import) → Tells none none (import_text i) (import_sorts i)
unfolding import_text
import_tells i = attribute_line_tells 0 i.attributes then (import_blank then (string_tells i.path.bytes refl then end_line refl))

-- the text of a file is the tokens that its tree shows
pub file_tells : (f : File) → Tells none none (file_text f) (file_sorts f)
unfolding file_text file_sorts
file_tells f =
    module_tells f.module_statement then
    (each import_text import_sorts import_tells f.imports then each definition_text definition_sorts definition_tells f.definitions)
