-- From one question on a list of tokens to another through the grammar, rule by rule.
use Rattle.std.proofs.Common.{ℕ, zero, suc, [], ◌∷◌}
use Rattle.std.specs.Prelude.{unwrap_or}
use Rattle.mojom_ast.specs.declared.classes.TheConstants.{NUMBER, STRING, MESSAGE_PIPE, DATA_PIPE_CONSUMER, DATA_PIPE_PRODUCER, SHARED_BUFFER, PLATFORM}
use Rattle.mojom_ast.specs.declared.token.Keyword.{Keyword}
use Rattle.mojom_ast.specs.declared.token.Keyword.TheVariants as keywords
use Rattle.mojom_ast.specs.declared.token.Symbol.{Symbol}
use Rattle.mojom_ast.specs.declared.token.Symbol.TheVariants.{Semicolon, Comma, Dot, OpenParen, CloseParen, OpenBracket, CloseBracket, OpenBrace, CloseBrace, Less, Greater, Equals, Arrow, Question, At, Plus, Minus}
use Rattle.mojom_ast.specs.declared.names.Value.TheVariants as values
use Rattle.mojom_ast.specs.declared.types.HandleSort.TheVariants.{MessagePipe, DataPipeConsumer, DataPipeProducer, SharedBuffer, Platform}
use Rattle.mojom_ast.specs.declared.types.PendingSort.TheVariants.{Remote, Receiver, AssociatedRemote, AssociatedReceiver}
use Rattle.mojom_ast.specs.declared.definitions.DefinitionItem.TheVariants as items
use Rattle.mojom_ast.specs.declared.definitions.StructItem.TheVariants as struct_items
use Rattle.mojom_ast.specs.declared.definitions.InterfaceItem.TheVariants as interface_items
use Rattle.mojom_ast.specs.Classes.{keyword_class, symbol_class, identifiers}
use Rattle.mojom_ast.specs.TypeTrees.{Named, HandleOf}
use Rattle.mojom_ast.specs.Trees.{identifier_of, number_of, string_of, make_name, make_true, make_false, make_number, make_plus, make_minus, make_attribute, inner, behind, make_array, make_map, make_pending, make_type, make_const, make_enumerator, make_enum, make_field, make_struct_member, make_struct, make_union_field, make_union, make_parameter, make_method, make_interface_member, make_interface, make_definition, make_module, make_import, make_file}
use Rattle.mojom_ast.specs.Lang.{joined, keyword, symbol}
use Rattle.mojom_ast.specs.Grammar.{identifier, number, string, dotted, name, ordinal, boolean, signed, value, assigned, attribute, bracketed, attributes, handle_sort, sort_given, handle, pending_sort, pending, count, array, map_of, base, type_at, type_within, const_of, enumerator, enum_of, field, struct_item, struct_member, struct_of, union_field, union_of, parameter, next_parameter, parameters, response, method, interface_item, interface_member, interface_of, definition_item, definition, module_name, module_of, import_path, import_of, file}
use Rattle.grammar_laws.proofs.Carries.{Change, Carries, more, carry_tok, carry_value, ◌then◌, ◌or_else◌, carry_maybe, carry_many, carry_list}

module _ (c : Change) where
  word : (k : Keyword) → Carries c (keyword k) (keyword k)
  word k = carry_tok (keyword_class k ∷ [])

  mark : (s : Symbol) → Carries c (symbol s) (symbol s)
  mark s = carry_tok (symbol_class s ∷ [])

  carry_identifier : Carries c identifier identifier
  unfolding identifier
  carry_identifier = carry_value identifier_of (carry_tok identifiers)

  carry_number : Carries c number number
  unfolding number
  carry_number = carry_value number_of (carry_tok (NUMBER ∷ []))

  carry_string : Carries c string string
  unfolding string
  carry_string = carry_value string_of (carry_tok (STRING ∷ []))

  carry_name : Carries c name name
  unfolding name dotted
  carry_name = carry_value make_name (carry_identifier then carry_many (carry_value behind (mark Dot then carry_identifier)))

  carry_ordinal : Carries c ordinal ordinal
  unfolding ordinal
  carry_ordinal = carry_value behind (mark At then carry_number)

  carry_given : Carries c value value
  unfolding value boolean signed
  carry_given = carry_value values.String carry_string
      or_else (carry_value make_true (word keywords.True) or_else carry_value make_false (word keywords.False))
      or_else (carry_value make_number carry_number
      or_else carry_value make_plus (mark Plus then carry_number)
      or_else carry_value make_minus (mark Minus then carry_number))
      or_else carry_value values.Name carry_name

  carry_assigned : Carries c assigned assigned
  unfolding assigned
  carry_assigned = carry_value behind (mark Equals then carry_given)

  carry_attribute : Carries c attribute attribute
  unfolding attribute
  carry_attribute = carry_value make_attribute (carry_identifier then carry_maybe carry_assigned)

  carry_attributes : Carries c attributes attributes
  unfolding attributes bracketed
  carry_attributes = carry_value (λ o. unwrap_or o [])
      (carry_maybe (carry_value inner (mark OpenBracket then carry_list carry_attribute then mark CloseBracket)))

  carry_sort : Carries c handle_sort handle_sort
  unfolding handle_sort
  carry_sort = carry_value (λ t. MessagePipe) (carry_tok (MESSAGE_PIPE ∷ []))
      or_else carry_value (λ t. DataPipeConsumer) (carry_tok (DATA_PIPE_CONSUMER ∷ []))
      or_else carry_value (λ t. DataPipeProducer) (carry_tok (DATA_PIPE_PRODUCER ∷ []))
      or_else carry_value (λ t. SharedBuffer) (carry_tok (SHARED_BUFFER ∷ []))
      or_else carry_value (λ t. Platform) (carry_tok (PLATFORM ∷ []))

  carry_handle : Carries c handle handle
  unfolding handle sort_given
  carry_handle = carry_value (λ x. HandleOf x.1) (word keywords.Handle then carry_maybe (carry_value inner (mark Less then carry_sort then mark Greater)))

  carry_pending : Carries c pending pending
  unfolding pending pending_sort
  carry_pending = carry_value make_pending ((carry_value (λ t. Remote) (word keywords.PendingRemote)
      or_else carry_value (λ t. Receiver) (word keywords.PendingReceiver)
      or_else carry_value (λ t. AssociatedRemote) (word keywords.PendingAssociatedRemote)
      or_else carry_value (λ t. AssociatedReceiver) (word keywords.PendingAssociatedReceiver))
      then mark Less then carry_name then mark Greater)

  carry_count : Carries c count count
  unfolding count
  carry_count = carry_value behind (mark Comma then carry_number)

  carry_type : (n : ℕ) → Carries c (type_within n) (type_within (more c.levels n))
  unfolding type_at base array map_of
  carry_type zero = record { carry = λ K L f p h. c.deepest K L p h }
  carry_type (suc n) = record {
    carry = (carry_value make_type ((carry_value make_array (word keywords.Array then mark Less then carry_type n then carry_maybe carry_count
        then mark Greater)
        or_else carry_value make_map (word keywords.Map then mark Less then carry_type n then mark Comma then carry_type n then mark Greater)
        or_else carry_handle or_else carry_pending or_else carry_value Named carry_name)
        then carry_maybe (mark Question))).carry;
  }

  carry_enumerator : Carries c enumerator enumerator
  unfolding enumerator
  carry_enumerator = carry_value make_enumerator (carry_attributes then carry_identifier then carry_maybe carry_assigned)

  carry_enum : Carries c enum_of enum_of
  unfolding enum_of
  carry_enum = carry_value make_enum
      (word keywords.Enum then carry_identifier then mark OpenBrace then carry_list carry_enumerator then mark CloseBrace then mark Semicolon)

  module _ (n : ℕ) where
    carry_const : Carries c (const_of n) (const_of (more c.levels n))
    unfolding const_of
    carry_const = carry_value make_const (word keywords.Const then carry_type n then carry_identifier then mark Equals then carry_given then mark Semicolon)

    carry_field : Carries c (field n) (field (more c.levels n))
    unfolding field
    carry_field = carry_value make_field (carry_type n then carry_identifier then carry_maybe carry_ordinal then carry_maybe carry_assigned then mark Semicolon)

    carry_struct_member : Carries c (struct_member n) (struct_member (more c.levels n))
    unfolding struct_member struct_item
    carry_struct_member = carry_value make_struct_member (carry_attributes
        then (carry_value struct_items.Const carry_const or_else carry_value struct_items.Enum carry_enum or_else carry_value struct_items.Field carry_field))

    carry_struct : Carries c (struct_of n) (struct_of (more c.levels n))
    unfolding struct_of
    carry_struct = carry_value make_struct
        (word keywords.Struct then carry_identifier then mark OpenBrace then carry_many carry_struct_member then mark CloseBrace then mark Semicolon)

    carry_union_field : Carries c (union_field n) (union_field (more c.levels n))
    unfolding union_field
    carry_union_field = carry_value make_union_field (carry_attributes then carry_type n then carry_identifier then carry_maybe carry_ordinal
        then mark Semicolon)

    carry_union : Carries c (union_of n) (union_of (more c.levels n))
    unfolding union_of
    carry_union = carry_value make_union
        (word keywords.Union then carry_identifier then mark OpenBrace then carry_many carry_union_field then mark CloseBrace then mark Semicolon)

    carry_parameter : Carries c (parameter n) (parameter (more c.levels n))
    unfolding parameter
    carry_parameter = carry_value make_parameter (carry_attributes then carry_type n then carry_identifier then carry_maybe carry_ordinal)

    carry_parameters : Carries c (parameters n) (parameters (more c.levels n))
    unfolding parameters next_parameter
    carry_parameters = carry_value (λ x. joined x.1.0)
        (mark OpenParen then carry_maybe (carry_parameter then carry_many (carry_value behind (mark Comma then carry_parameter))) then mark CloseParen)

    carry_method : Carries c (method n) (method (more c.levels n))
    unfolding method response
    carry_method = carry_value make_method (carry_identifier then carry_maybe carry_ordinal then carry_parameters
        then carry_maybe (carry_value behind (mark Arrow then carry_parameters)) then mark Semicolon)

    carry_interface_member : Carries c (interface_member n) (interface_member (more c.levels n))
    unfolding interface_member interface_item
    carry_interface_member = carry_value make_interface_member (carry_attributes
        then (carry_value interface_items.Const carry_const or_else carry_value interface_items.Enum carry_enum
        or_else carry_value interface_items.Method carry_method))

    carry_interface : Carries c (interface_of n) (interface_of (more c.levels n))
    unfolding interface_of
    carry_interface = carry_value make_interface
        (word keywords.Interface then carry_identifier then mark OpenBrace then carry_many carry_interface_member then mark CloseBrace then mark Semicolon)

    carry_definition : Carries c (definition n) (definition (more c.levels n))
    unfolding definition definition_item
    carry_definition = carry_value make_definition (carry_attributes
        then (carry_value items.Struct carry_struct or_else carry_value items.Union carry_union or_else carry_value items.Enum carry_enum
        or_else carry_value items.Interface carry_interface or_else carry_value items.Const carry_const))

    -- for fronts of beginnings, for what ends too deep, and for more levels of types
    pub carry_file : Carries c (file n) (file (more c.levels n))
    unfolding file module_of module_name import_of import_path
    carry_file = carry_value make_file (carry_maybe (carry_value make_module (carry_attributes
        then carry_value inner (word keywords.Module then carry_name then mark Semicolon)))
        then carry_many (carry_value make_import (carry_attributes then carry_value inner (word keywords.Import then carry_string then mark Semicolon)))
        then carry_many carry_definition)
