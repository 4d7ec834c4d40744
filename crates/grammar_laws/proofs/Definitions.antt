-- The laws of definitions, put together as the rules are. The rule that spells has j levels of types, the one that reads k.
use Rattle.std.proofs.Common.{◌≡◌, ℕ, [], ◌∷◌, refl}
use Rattle.mojom_ast.specs.declared.classes.TheConstants.{EQUALS, DOT, ENUM, OPEN_BRACE, CLOSE_BRACE, SEMICOLON, MODULE, IMPORT, CONST, STRUCT, UNION, AT, COMMA, OPEN_PAREN, CLOSE_PAREN, ARROW, INTERFACE}
use Rattle.mojom_ast.specs.declared.definitions.DefinitionItem.TheVariants as items
use Rattle.mojom_ast.specs.declared.definitions.StructItem.TheVariants as struct_items
use Rattle.mojom_ast.specs.declared.definitions.InterfaceItem.TheVariants as interface_items
use Rattle.mojom_ast.specs.Trees.{inner, behind, make_const, make_enumerator, make_enum, make_field, make_struct_member, make_struct, make_union_field, make_union, make_parameter, make_method, make_interface_member, make_interface, make_definition}
use Rattle.mojom_ast.specs.Lang.{times, commas, joined}
use Rattle.mojom_ast.specs.Grammar.{identifier, number, string, name, ordinal, boolean, signed, value, assigned, bracketed, attributes, const_of, enumerator, enum_of, field, struct_item, struct_member, struct_of, union_field, union_of, parameter, next_parameter, parameters, response, method, interface_item, interface_member, interface_of, definition_item, definition, module_name, import_path}
use Rattle.grammar_laws.proofs.Lists.{Good, good_tok, good_value, good_seq, good_or, good_maybe, good_many, good_list}
use Rattle.grammar_laws.proofs.Values.{good_identifier, good_string, good_name, good_ordinal, good_given, good_assigned, good_attributes}
use Rattle.grammar_laws.proofs.Types.{good_type}

module _ (D : Type 0) where
  -- for enums
  pub good_enumerator : Good D (EQUALS ∷ DOT ∷ []) enumerator enumerator
  unfolding enumerator attributes bracketed identifier assigned
  good_enumerator = good_value make_enumerator (good_seq (good_attributes D) (good_seq (good_identifier D) (good_maybe (good_assigned D) refl) refl) refl)

  -- for what stands in structs, interfaces and files
  pub good_enum : Good D [] enum_of enum_of
  unfolding enum_of enumerator attributes bracketed identifier assigned commas
  good_enum = good_value make_enum (good_seq (good_tok D (ENUM ∷ [])) (good_seq (good_identifier D)
      (good_seq (good_tok D (OPEN_BRACE ∷ [])) (good_seq (good_list good_enumerator refl refl)
      (good_seq (good_tok D (CLOSE_BRACE ∷ [])) (good_tok D (SEMICOLON ∷ [])) refl) refl) refl) refl) refl)

  -- for the statement of a module
  pub good_module_name : Good D [] module_name module_name
  unfolding module_name name identifier
  good_module_name = good_value inner (good_seq (good_tok D (MODULE ∷ [])) (good_seq (good_name D) (good_tok D (SEMICOLON ∷ [])) refl) refl)

  -- for imports
  pub good_import_path : Good D [] import_path import_path
  unfolding import_path string
  good_import_path = good_value inner (good_seq (good_tok D (IMPORT ∷ [])) (good_seq (good_string D) (good_tok D (SEMICOLON ∷ [])) refl) refl)

module _ (j k : ℕ) where
  good_const : Good (j ≡ k) [] (const_of j) (const_of k)
  unfolding const_of identifier value string boolean signed number name
  good_const = good_value make_const (good_seq (good_tok (j ≡ k) (CONST ∷ []))
      (good_seq (good_type j k) (good_seq (good_identifier (j ≡ k)) (good_seq (good_tok (j ≡ k) (EQUALS ∷ []))
      (good_seq (good_given (j ≡ k)) (good_tok (j ≡ k) (SEMICOLON ∷ [])) refl) refl) refl) refl) refl)

  good_field : Good (j ≡ k) [] (field j) (field k)
  unfolding field identifier ordinal assigned
  good_field = good_value make_field (good_seq (good_type j k) (good_seq (good_identifier (j ≡ k))
      (good_seq (good_maybe (good_ordinal (j ≡ k)) refl) (good_seq (good_maybe (good_assigned (j ≡ k)) refl) (good_tok (j ≡ k) (SEMICOLON ∷ [])) refl) refl)
      refl) refl)

  good_struct_item : Good (j ≡ k) [] (struct_item j) (struct_item k)
  unfolding struct_item const_of enum_of field
  good_struct_item = good_or (good_value struct_items.Const good_const) (good_or (good_value struct_items.Enum (good_enum (j ≡ k)))
      (good_value struct_items.Field good_field) refl refl refl) refl refl refl

  good_struct_member : Good (j ≡ k) [] (struct_member j) (struct_member k)
  unfolding struct_member attributes bracketed struct_item const_of enum_of field
  good_struct_member = good_value make_struct_member (good_seq (good_attributes (j ≡ k)) good_struct_item refl)

  good_struct : Good (j ≡ k) [] (struct_of j) (struct_of k)
  unfolding struct_of identifier struct_member attributes bracketed struct_item const_of enum_of field times
  good_struct = good_value make_struct (good_seq (good_tok (j ≡ k) (STRUCT ∷ []))
      (good_seq (good_identifier (j ≡ k)) (good_seq (good_tok (j ≡ k) (OPEN_BRACE ∷ []))
      (good_seq (good_many good_struct_member refl refl) (good_seq (good_tok (j ≡ k) (CLOSE_BRACE ∷ [])) (good_tok (j ≡ k) (SEMICOLON ∷ [])) refl) refl) refl)
      refl) refl)

  good_union_field : Good (j ≡ k) [] (union_field j) (union_field k)
  unfolding union_field attributes bracketed identifier ordinal
  good_union_field = good_value make_union_field (good_seq (good_attributes (j ≡ k))
      (good_seq (good_type j k) (good_seq (good_identifier (j ≡ k)) (good_seq (good_maybe (good_ordinal (j ≡ k)) refl)
      (good_tok (j ≡ k) (SEMICOLON ∷ [])) refl) refl) refl) refl)

  good_union : Good (j ≡ k) [] (union_of j) (union_of k)
  unfolding union_of identifier union_field attributes bracketed times
  good_union = good_value make_union (good_seq (good_tok (j ≡ k) (UNION ∷ []))
      (good_seq (good_identifier (j ≡ k)) (good_seq (good_tok (j ≡ k) (OPEN_BRACE ∷ []))
      (good_seq (good_many good_union_field refl refl) (good_seq (good_tok (j ≡ k) (CLOSE_BRACE ∷ [])) (good_tok (j ≡ k) (SEMICOLON ∷ [])) refl) refl) refl)
      refl) refl)

  good_parameter : Good (j ≡ k) (AT ∷ []) (parameter j) (parameter k)
  unfolding parameter attributes bracketed identifier ordinal
  good_parameter = good_value make_parameter (good_seq (good_attributes (j ≡ k))
      (good_seq (good_type j k) (good_seq (good_identifier (j ≡ k)) (good_maybe (good_ordinal (j ≡ k)) refl) refl) refl) refl)

  good_next_parameter : Good (j ≡ k) (AT ∷ []) (next_parameter j) (next_parameter k)
  unfolding next_parameter parameter attributes bracketed
  good_next_parameter = good_value behind (good_seq (good_tok (j ≡ k) (COMMA ∷ [])) good_parameter refl)

  good_parameters : Good (j ≡ k) [] (parameters j) (parameters k)
  unfolding parameters parameter attributes bracketed next_parameter times
  good_parameters = good_value (λ x. joined x.1.0) (good_seq (good_tok (j ≡ k) (OPEN_PAREN ∷ []))
      (good_seq (good_maybe (good_seq good_parameter (good_many good_next_parameter refl refl) refl) refl) (good_tok (j ≡ k) (CLOSE_PAREN ∷ [])) refl) refl)

  good_response : Good (j ≡ k) [] (response j) (response k)
  unfolding response parameters
  good_response = good_value behind (good_seq (good_tok (j ≡ k) (ARROW ∷ [])) good_parameters refl)

  good_method : Good (j ≡ k) [] (method j) (method k)
  unfolding method identifier ordinal parameters response
  good_method = good_value make_method (good_seq (good_identifier (j ≡ k))
      (good_seq (good_maybe (good_ordinal (j ≡ k)) refl) (good_seq good_parameters
      (good_seq (good_maybe good_response refl) (good_tok (j ≡ k) (SEMICOLON ∷ [])) refl) refl) refl) refl)

  good_interface_item : Good (j ≡ k) [] (interface_item j) (interface_item k)
  unfolding interface_item const_of enum_of method identifier
  good_interface_item = good_or (good_value interface_items.Const good_const)
      (good_or (good_value interface_items.Enum (good_enum (j ≡ k))) (good_value interface_items.Method good_method) refl refl refl) refl refl refl

  good_interface_member : Good (j ≡ k) [] (interface_member j) (interface_member k)
  unfolding interface_member attributes bracketed interface_item const_of enum_of method identifier
  good_interface_member = good_value make_interface_member (good_seq (good_attributes (j ≡ k)) good_interface_item refl)

  good_interface : Good (j ≡ k) [] (interface_of j) (interface_of k)
  unfolding interface_of identifier interface_member attributes bracketed interface_item const_of enum_of method times
  good_interface = good_value make_interface (good_seq (good_tok (j ≡ k) (INTERFACE ∷ []))
      (good_seq (good_identifier (j ≡ k)) (good_seq (good_tok (j ≡ k) (OPEN_BRACE ∷ []))
      (good_seq (good_many good_interface_member refl refl) (good_seq (good_tok (j ≡ k) (CLOSE_BRACE ∷ [])) (good_tok (j ≡ k) (SEMICOLON ∷ [])) refl) refl)
      refl) refl) refl)

  -- for definitions, and for what stands behind attributes
  pub good_definition_item : Good (j ≡ k) [] (definition_item j) (definition_item k)
  unfolding definition_item struct_of union_of enum_of interface_of const_of
  good_definition_item = good_or (good_value items.Struct good_struct) (good_or (good_value items.Union good_union)
      (good_or (good_value items.Enum (good_enum (j ≡ k))) (good_or (good_value items.Interface good_interface)
      (good_value items.Const good_const) refl refl refl) refl refl refl) refl refl refl) refl refl refl

  -- for files
  pub good_definition : Good (j ≡ k) [] (definition j) (definition k)
  unfolding definition attributes bracketed definition_item struct_of union_of enum_of interface_of const_of
  good_definition = good_value make_definition (good_seq (good_attributes (j ≡ k)) good_definition_item refl)
