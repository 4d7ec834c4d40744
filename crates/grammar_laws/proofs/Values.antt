-- The laws of names, values and attributes, put together as the rules are.
use Rattle.std.proofs.Common.{[], ◌∷◌, refl}
use Rattle.std.specs.Prelude.{unwrap_or}
use Rattle.mojom_ast.specs.declared.classes.TheConstants.{NUMBER, STRING, DOT, AT, TRUE, FALSE, PLUS, MINUS, EQUALS, OPEN_BRACKET, CLOSE_BRACKET}
use Rattle.mojom_ast.specs.declared.names.Value.TheVariants as values
use Rattle.mojom_ast.specs.Classes.{identifiers}
use Rattle.mojom_ast.specs.Trees.{identifier_of, number_of, string_of, make_name, make_true, make_false, make_number, make_plus, make_minus, make_attribute, inner, behind}
use Rattle.mojom_ast.specs.Lang.{times, commas}
use Rattle.mojom_ast.specs.Grammar.{identifier, number, string, dotted, name, ordinal, boolean, signed, value, assigned, attribute, bracketed, attributes}
use Rattle.grammar_laws.proofs.Lists.{Good, good_tok, good_value, good_seq, good_or, good_maybe, good_many, good_list}

module _ (D : Type 0) where
  -- for all that has a name
  pub good_identifier : Good D [] identifier identifier
  unfolding identifier
  good_identifier = good_value identifier_of (good_tok D identifiers)

  -- for ordinals, counts and values
  pub good_number : Good D [] number number
  unfolding number
  good_number = good_value number_of (good_tok D (NUMBER ∷ []))

  -- for imports and values
  pub good_string : Good D [] string string
  unfolding string
  good_string = good_value string_of (good_tok D (STRING ∷ []))

  -- for names
  pub good_dotted : Good D [] dotted dotted
  unfolding dotted identifier
  good_dotted = good_value behind (good_seq (good_tok D (DOT ∷ [])) good_identifier refl)

  -- for types, values and modules
  pub good_name : Good D (DOT ∷ []) name name
  unfolding name identifier dotted times
  good_name = good_value make_name (good_seq good_identifier (good_many good_dotted refl refl) refl)

  -- for fields, parameters and methods
  pub good_ordinal : Good D [] ordinal ordinal
  unfolding ordinal number
  good_ordinal = good_value behind (good_seq (good_tok D (AT ∷ [])) good_number refl)

  -- for values
  pub good_boolean : Good D [] boolean boolean
  unfolding boolean
  good_boolean = good_or (good_value make_true (good_tok D (TRUE ∷ []))) (good_value make_false (good_tok D (FALSE ∷ []))) refl refl refl

  -- for values
  pub good_signed : Good D [] signed signed
  unfolding signed number
  good_signed = good_or (good_value make_number good_number)
      (good_or (good_value make_plus (good_seq (good_tok D (PLUS ∷ [])) good_number refl))
      (good_value make_minus (good_seq (good_tok D (MINUS ∷ [])) good_number refl)) refl refl refl) refl refl refl

  -- for constants and what is assigned
  pub good_given : Good D (DOT ∷ []) value value
  unfolding value string boolean signed number name identifier
  good_given = good_or (good_value values.String good_string)
      (good_or good_boolean (good_or good_signed (good_value values.Name good_name) refl refl refl) refl refl refl) refl refl refl

  -- for attributes, enumerators and fields
  pub good_assigned : Good D (DOT ∷ []) assigned assigned
  unfolding assigned value string boolean signed number name identifier
  good_assigned = good_value behind (good_seq (good_tok D (EQUALS ∷ [])) good_given refl)

  -- for attributes in brackets
  pub good_attribute : Good D (EQUALS ∷ DOT ∷ []) attribute attribute
  unfolding attribute assigned identifier
  good_attribute = good_value make_attribute (good_seq good_identifier (good_maybe good_assigned refl) refl)

  -- for attributes
  pub good_bracketed : Good D [] bracketed bracketed
  unfolding bracketed attribute identifier assigned commas
  good_bracketed = good_value inner (good_seq (good_tok D (OPEN_BRACKET ∷ []))
      (good_seq (good_list good_attribute refl refl) (good_tok D (CLOSE_BRACKET ∷ [])) refl) refl)

  -- for all that attributes stand before
  pub good_attributes : Good D (OPEN_BRACKET ∷ []) attributes attributes
  unfolding attributes bracketed
  good_attributes = good_value (λ o. unwrap_or o []) (good_maybe good_bracketed refl)
