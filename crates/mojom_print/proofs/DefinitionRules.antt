-- Definitions and files show what spells them again.
use Rattle.std.proofs.Common.{◌≡◌, ℕ, List, ◌++◌, Option, Some, None, refl, ap}
use Rattle.std.specs.Prelude.{map}
use Rattle.std.specs.Option.{option_map}
use Rattle.mojom_ast.specs.declared.token.Keyword.TheVariants as keywords
use Rattle.mojom_ast.specs.declared.token.Symbol.TheVariants.{Semicolon, OpenParen, CloseParen, OpenBrace, CloseBrace, Comma, Equals, Arrow}
use Rattle.mojom_ast.specs.declared.definitions.DefinitionItem.TheVariants as items
use Rattle.mojom_ast.specs.declared.definitions.StructItem.TheVariants as struct_items
use Rattle.mojom_ast.specs.declared.definitions.InterfaceItem.TheVariants as interface_items
use Rattle.mojom_ast.specs.declared.definitions.Parameter.{Parameter}
use Rattle.mojom_ast.specs.Lang.{joined}
use Rattle.mojom_ast.specs.Trees.{inner, behind, make_const, make_enumerator, make_enum, make_field, make_struct_member, make_struct, make_union_field, make_union, make_parameter, make_method, make_interface_member, make_interface, make_definition, make_module, make_import, make_file}
use Rattle.mojom_ast.specs.Grammar.{const_of, enumerator, enum_of, field, struct_item, struct_member, struct_of, union_field, union_of, parameter, next_parameter, parameters, response, method, interface_item, interface_member, interface_of, definition_item, definition, module_name, module_of, import_path, import_of, file}
use Rattle.mojom_print.specs.Unplaced.{const_unplaced, enumerator_unplaced, enum_unplaced, field_unplaced, struct_item_unplaced, struct_member_unplaced, struct_unplaced, union_field_unplaced, union_unplaced, parameter_unplaced, method_unplaced, interface_item_unplaced, interface_member_unplaced, interface_unplaced, definition_item_unplaced, definition_unplaced, name_unplaced, string_unplaced, module_unplaced, import_unplaced, unplaced}
use Rattle.mojom_print.proofs.Shows.{both_off}
use Rattle.mojom_print.proofs.Prints.{AllLexical, Prints, prints_keyword, prints_symbol, ◌then◌, prints_value, ◌or_else◌, option_sorts, prints_maybe, prints_many}
use Rattle.mojom_print.proofs.CommaLists.{comma, between, led, prints_comma_ended}
use Rattle.mojom_print.proofs.Sorts.{key, sign, name_sorts, string_sorts, const_sorts, enumerator_sorts, enum_sorts, field_sorts, struct_item_sorts, struct_member_sorts, struct_sorts, union_field_sorts, union_sorts, parameter_sorts, parameters_sorts, response_sorts, method_sorts, interface_item_sorts, interface_member_sorts, interface_sorts, definition_item_sorts, definition_sorts, module_sorts, import_sorts, file_sorts}
use Rattle.mojom_print.proofs.ValueRules.{prints_identifier, prints_string, prints_name, prints_ordinal, prints_val, prints_assigned, prints_attributes}
use Rattle.mojom_print.proofs.TypeRules.{prints_type}

prints_const : (n : ℕ) → Prints (const_of n) const_unplaced const_sorts
unfolding const_of const_sorts
prints_const n =
    prints_value make_const const_unplaced const_sorts (λ v. refl) (λ v. refl)
    (prints_keyword keywords.Const then prints_type n then prints_identifier then prints_symbol Equals then prints_val then prints_symbol Semicolon)

prints_enumerator : Prints enumerator enumerator_unplaced enumerator_sorts
unfolding enumerator enumerator_sorts
prints_enumerator =
    prints_value make_enumerator enumerator_unplaced enumerator_sorts (λ v. refl) (λ v. refl)
    (prints_attributes then prints_identifier then prints_maybe prints_assigned)

prints_enum : AllLexical comma → Prints enum_of enum_unplaced enum_sorts
unfolding enum_of enum_sorts
prints_enum c =
    prints_value make_enum enum_unplaced enum_sorts (λ v. refl) (λ v. refl)
    (prints_keyword keywords.Enum then prints_identifier then prints_symbol OpenBrace then prints_comma_ended prints_enumerator c then prints_symbol
    CloseBrace then prints_symbol Semicolon)

prints_field : (n : ℕ) → Prints (field n) field_unplaced field_sorts
unfolding field field_sorts
prints_field n =
    prints_value make_field field_unplaced field_sorts (λ v. refl) (λ v. refl)
    (prints_type n then prints_identifier then prints_maybe prints_ordinal then prints_maybe prints_assigned then prints_symbol Semicolon)

prints_struct_item : (n : ℕ) → AllLexical comma → Prints (struct_item n) struct_item_unplaced struct_item_sorts
unfolding struct_item
prints_struct_item n c =
    prints_value struct_items.Const struct_item_unplaced struct_item_sorts (λ v. refl) (λ v. refl) (prints_const n)
    or_else prints_value struct_items.Enum struct_item_unplaced struct_item_sorts (λ v. refl) (λ v. refl) (prints_enum c)
    or_else prints_value struct_items.Field struct_item_unplaced struct_item_sorts (λ v. refl) (λ v. refl) (prints_field n)

prints_struct_member : (n : ℕ) → AllLexical comma → Prints (struct_member n) struct_member_unplaced struct_member_sorts
unfolding struct_member
prints_struct_member n c =
    prints_value make_struct_member struct_member_unplaced struct_member_sorts (λ v. refl) (λ v. refl) (prints_attributes then prints_struct_item n c)

prints_struct : (n : ℕ) → AllLexical comma → Prints (struct_of n) struct_unplaced struct_sorts
unfolding struct_of struct_sorts
prints_struct n c =
    prints_value make_struct struct_unplaced struct_sorts (λ v. refl) (λ v. refl)
    (prints_keyword keywords.Struct then prints_identifier then prints_symbol OpenBrace then prints_many
    (prints_struct_member n c) then prints_symbol CloseBrace then prints_symbol Semicolon)

prints_union_field : (n : ℕ) → Prints (union_field n) union_field_unplaced union_field_sorts
unfolding union_field union_field_sorts
prints_union_field n =
    prints_value make_union_field union_field_unplaced union_field_sorts (λ v. refl) (λ v. refl)
    (prints_attributes then prints_type n then prints_identifier then prints_maybe prints_ordinal then prints_symbol Semicolon)

prints_union : (n : ℕ) → Prints (union_of n) union_unplaced union_sorts
unfolding union_of union_sorts
prints_union n =
    prints_value make_union union_unplaced union_sorts (λ v. refl) (λ v. refl)
    (prints_keyword keywords.Union then prints_identifier then prints_symbol OpenBrace then prints_many
    (prints_union_field n) then prints_symbol CloseBrace then prints_symbol Semicolon)

prints_parameter : (n : ℕ) → Prints (parameter n) parameter_unplaced parameter_sorts
unfolding parameter parameter_sorts
prints_parameter n =
    prints_value make_parameter parameter_unplaced parameter_sorts (λ v. refl) (λ v. refl)
    (prints_attributes then prints_type n then prints_identifier then prints_maybe prints_ordinal)

prints_next_parameter : (n : ℕ) → Prints (next_parameter n) parameter_unplaced (λ p. comma ++ parameter_sorts p)
unfolding next_parameter
prints_next_parameter n =
    prints_value behind parameter_unplaced (λ p. comma ++ parameter_sorts p) (λ v. refl) (λ v. refl) (prints_symbol Comma then prints_parameter n)

parameters_off : (v : Option (Parameter × List Parameter))
    → map parameter_unplaced (joined v) ≡ joined (option_map (both_off parameter_unplaced (map parameter_unplaced)) v)
parameters_off None = refl
parameters_off (Some x) = refl

parameters_between : (v : Option (Parameter × List Parameter)) → option_sorts (λ x. parameter_sorts x.0 ++ led parameter_sorts x.1) v
    ≡ between parameter_sorts (joined v)
parameters_between None = refl
parameters_between (Some x) = refl

prints_parameters : (n : ℕ) → Prints (parameters n) (map parameter_unplaced) parameters_sorts
unfolding parameters parameters_sorts
prints_parameters n =
    prints_value (λ x. joined x.1.0) (map parameter_unplaced) parameters_sorts (λ v. parameters_off v.1.0)
    (λ v. ap (λ (l : List _). sign OpenParen ++ (l ++ sign CloseParen)) (parameters_between v.1.0))
    (prints_symbol OpenParen then prints_maybe (prints_parameter n then prints_many (prints_next_parameter n)) then prints_symbol CloseParen)

prints_response : (n : ℕ) → Prints (response n) (map parameter_unplaced) response_sorts
unfolding response
prints_response n = prints_value behind (map parameter_unplaced) response_sorts (λ v. refl) (λ v. refl) (prints_symbol Arrow then prints_parameters n)

prints_method : (n : ℕ) → Prints (method n) method_unplaced method_sorts
unfolding method method_sorts
prints_method n =
    prints_value make_method method_unplaced method_sorts (λ v. refl) (λ v. refl)
    (prints_identifier then prints_maybe prints_ordinal then prints_parameters n then prints_maybe (prints_response n) then prints_symbol Semicolon)

prints_interface_item : (n : ℕ) → AllLexical comma → Prints (interface_item n) interface_item_unplaced interface_item_sorts
unfolding interface_item
prints_interface_item n c =
    prints_value interface_items.Const interface_item_unplaced interface_item_sorts (λ v. refl) (λ v. refl) (prints_const n)
    or_else prints_value interface_items.Enum interface_item_unplaced interface_item_sorts (λ v. refl) (λ v. refl) (prints_enum c)
    or_else prints_value interface_items.Method interface_item_unplaced interface_item_sorts (λ v. refl) (λ v. refl) (prints_method n)

prints_interface_member : (n : ℕ) → AllLexical comma → Prints (interface_member n) interface_member_unplaced interface_member_sorts
unfolding interface_member
prints_interface_member n c =
    prints_value make_interface_member interface_member_unplaced interface_member_sorts (λ v. refl) (λ v. refl)
    (prints_attributes then prints_interface_item n c)

prints_interface : (n : ℕ) → AllLexical comma → Prints (interface_of n) interface_unplaced interface_sorts
unfolding interface_of interface_sorts
prints_interface n c =
    prints_value make_interface interface_unplaced interface_sorts (λ v. refl) (λ v. refl)
    (prints_keyword keywords.Interface then prints_identifier then prints_symbol OpenBrace then prints_many
    (prints_interface_member n c) then prints_symbol CloseBrace then prints_symbol Semicolon)

prints_definition_item : (n : ℕ) → AllLexical comma → Prints (definition_item n) definition_item_unplaced definition_item_sorts
unfolding definition_item
prints_definition_item n c =
    prints_value items.Struct definition_item_unplaced definition_item_sorts (λ v. refl) (λ v. refl) (prints_struct n c)
    or_else prints_value items.Union definition_item_unplaced definition_item_sorts (λ v. refl) (λ v. refl) (prints_union n)
    or_else prints_value items.Enum definition_item_unplaced definition_item_sorts (λ v. refl) (λ v. refl) (prints_enum c)
    or_else prints_value items.Interface definition_item_unplaced definition_item_sorts (λ v. refl) (λ v. refl) (prints_interface n c)
    or_else prints_value items.Const definition_item_unplaced definition_item_sorts (λ v. refl) (λ v. refl) (prints_const n)

prints_definition : (n : ℕ) → AllLexical comma → Prints (definition n) definition_unplaced definition_sorts
unfolding definition
prints_definition n c =
    prints_value make_definition definition_unplaced definition_sorts (λ v. refl) (λ v. refl) (prints_attributes then prints_definition_item n c)

prints_module_name : Prints module_name name_unplaced (λ x. key keywords.Module ++ (name_sorts x ++ sign Semicolon))
unfolding module_name
prints_module_name =
    prints_value inner name_unplaced (λ x. key keywords.Module ++ (name_sorts x ++ sign Semicolon)) (λ v. refl) (λ v. refl)
    (prints_keyword keywords.Module then prints_name then prints_symbol Semicolon)

prints_module : Prints module_of module_unplaced module_sorts
unfolding module_of
prints_module = prints_value make_module module_unplaced module_sorts (λ v. refl) (λ v. refl) (prints_attributes then prints_module_name)

prints_import_path : Prints import_path string_unplaced (λ x. key keywords.Import ++ (string_sorts x ++ sign Semicolon))
unfolding import_path
prints_import_path =
    prints_value inner string_unplaced (λ x. key keywords.Import ++ (string_sorts x ++ sign Semicolon)) (λ v. refl) (λ v. refl)
    (prints_keyword keywords.Import then prints_string then prints_symbol Semicolon)

prints_import : Prints import_of import_unplaced import_sorts
unfolding import_of
prints_import = prints_value make_import import_unplaced import_sorts (λ v. refl) (λ v. refl) (prints_attributes then prints_import_path)

-- for `spelled_again`: the rule of a file
pub prints_file : (n : ℕ) → AllLexical comma → Prints (file n) unplaced file_sorts
unfolding file file_sorts unplaced
prints_file n c =
    prints_value make_file unplaced file_sorts (λ v. refl) (λ v. refl)
    (prints_maybe prints_module then prints_many prints_import then prints_many (prints_definition n c))
