-- Names, values, attributes and types show what spells them again.
use Rattle.std.proofs.Common.{◌≡◌, List, [], ◌∷◌, Option, Some, None, refl, ap, inl, inr}
use Rattle.std.specs.Prelude.{map, unwrap_or}
use Rattle.std.specs.Option.{option_map}
use Rattle.mojom_ast.specs.declared.token.Keyword.TheVariants as keywords
use Rattle.mojom_ast.specs.declared.token.Symbol.TheVariants.{Dot, OpenBracket, CloseBracket, Equals, At, Plus, Minus}
use Rattle.mojom_ast.specs.declared.token.Sort.{Sort}
use Rattle.mojom_ast.specs.declared.token.Sort.TheVariants as sorts
use Rattle.mojom_ast.specs.declared.token.Token.{Token}
use Rattle.mojom_ast.specs.declared.names.Value.{Value}
use Rattle.mojom_ast.specs.declared.names.Value.TheVariants as values
use Rattle.mojom_ast.specs.declared.attributes.Attribute.{Attribute}
use Rattle.mojom_ast.specs.Classes.{identifiers}
use Rattle.mojom_ast.specs.Lang.{Whole, symbol, as_value, ◌▹◌, ◌or◌}
use Rattle.mojom_ast.specs.Trees.{text_in, number_in, bytes_in, identifier_of, number_of, string_of, make_name, make_true, make_false, make_number, make_plus, make_minus, make_attribute, inner, behind}
use Rattle.mojom_ast.specs.Grammar.{identifier, number, string, dotted, name, ordinal, boolean, signed, value, assigned, attribute, bracketed, attributes}
use Rattle.mojom_print.specs.Unplaced.{identifier_unplaced, number_unplaced, string_unplaced, name_unplaced, value_unplaced, attribute_unplaced}
use Rattle.mojom_print.proofs.Shows.{sort_of, token_off, Shows, shows_value, shows_left, shows_right, shows_some, shows_none, shows_same}
use Rattle.mojom_print.proofs.FixedSorts.{identifier_sort, number_sort, string_sort}
use Rattle.mojom_print.proofs.Prints.{AllLexical, Printed, Prints, prints_tok, prints_keyword, prints_symbol, ◌then◌, prints_value, ◌or_else◌, prints_maybe, prints_many}
use Rattle.mojom_print.proofs.CommaLists.{prints_comma_between}
use Rattle.mojom_print.proofs.Sorts.{sign, identifier_sorts, number_sorts, string_sorts, dotted_sorts, name_sorts, ordinal_sorts, value_sorts, assigned_sorts, attribute_sorts, bracketed_sorts, attributes_sorts}

-- for the rules that have an identifier
pub prints_identifier : Prints identifier identifier_unplaced identifier_sorts
unfolding identifier
prints_identifier =
    prints_value identifier_of identifier_unplaced identifier_sorts (λ v. refl) (λ v. refl)
    (prints_tok identifiers (λ t. sorts.Identifier (text_in t.sort) ∷ []) (λ t h. ap (λ (s : Sort). s ∷ []) (identifier_sort t.sort h)))

-- for the rules that have a number
pub prints_number : Prints number number_unplaced number_sorts
unfolding number
prints_number =
    prints_value number_of number_unplaced number_sorts (λ v. refl) (λ v. refl)
    (prints_tok (1 ∷ []) (λ t. sorts.Number (number_in t.sort) ∷ []) (λ t h. ap (λ (s : Sort). s ∷ []) (number_sort t.sort h)))

-- for the rules that have a string
pub prints_string : Prints string string_unplaced string_sorts
unfolding string
prints_string =
    prints_value string_of string_unplaced string_sorts (λ v. refl) (λ v. refl)
    (prints_tok (2 ∷ []) (λ t. sorts.String (bytes_in t.sort) ∷ []) (λ t h. ap (λ (s : Sort). s ∷ []) (string_sort t.sort h)))

prints_dotted : Prints dotted identifier_unplaced dotted_sorts
unfolding dotted
prints_dotted = prints_value behind identifier_unplaced dotted_sorts (λ v. refl) (λ v. refl) (prints_symbol Dot then prints_identifier)

-- for the rules that have a name
pub prints_name : Prints name name_unplaced name_sorts
unfolding name
prints_name = prints_value make_name name_unplaced name_sorts (λ v. refl) (λ v. refl) (prints_identifier then prints_many prints_dotted)

-- for the rules that have an ordinal
pub prints_ordinal : Prints ordinal number_unplaced ordinal_sorts
unfolding ordinal
prints_ordinal = prints_value behind number_unplaced ordinal_sorts (λ v. refl) (λ v. refl) (prints_symbol At then prints_number)

prints_boolean : Prints boolean value_unplaced value_sorts
unfolding boolean
prints_boolean =
    prints_value make_true value_unplaced value_sorts (λ v. refl) (λ v. refl) (prints_keyword keywords.True)
    or_else prints_value make_false value_unplaced value_sorts (λ v. refl) (λ v. refl) (prints_keyword keywords.False)

prints_plain : Prints (as_value make_number number) value_unplaced value_sorts
prints_plain = prints_value make_number value_unplaced value_sorts (λ v. refl) (λ v. refl) prints_number

prints_negative : Prints (as_value make_minus (symbol Minus ▹ number)) value_unplaced value_sorts
prints_negative = prints_value make_minus value_unplaced value_sorts (λ v. refl) (λ v. refl) (prints_symbol Minus then prints_number)

-- a plus is as none
prints_signed : Prints signed value_unplaced value_sorts
unfolding signed
prints_signed = record { printed = of }
  where
    without : (K : Value → List Token → Type 0) (t : Token) → Printed number number_unplaced number_sorts (λ n. K (make_plus (t, n)))
        → Printed signed value_unplaced value_sorts K
    without K t g = record {
      value = make_plus (t, g.value);
      left = g.left;
      next = g.next;
      all = g.all;
      good = g.good;
      shows =
          shows_same (make_number g.value) (make_plus (t, g.value)) refl
          (shows_left (as_value make_plus (symbol Plus ▹ number) or as_value make_minus (symbol Minus ▹ number))
          (shows_value make_number value_unplaced (λ v. refl) g.shows));
    }

    plus : (K : Value → List Token → Type 0)
        → Printed (symbol Plus) token_off (λ t. sign Plus) (λ t. number.followed Whole (λ n. K (make_plus (t, n))))
        → Printed signed value_unplaced value_sorts K
    plus K g = without K g.value (prints_number.printed (λ n. K (make_plus (g.value, n))) g.left g.all g.next)

    plain : (K : Value → List Token → Type 0) → Printed (as_value make_number number) value_unplaced value_sorts K
        → Printed signed value_unplaced value_sorts K
    plain K g =
        record {
          value = g.value;
          left = g.left;
          next = g.next;
          all = g.all;
          good = g.good;
          shows = shows_left (as_value make_plus (symbol Plus ▹ number) or as_value make_minus (symbol Minus ▹ number)) g.shows;
        }

    negative : (K : Value → List Token → Type 0) → Printed (as_value make_minus (symbol Minus ▹ number)) value_unplaced value_sorts K
        → Printed signed value_unplaced value_sorts K
    negative K g =
        record {
          value = g.value;
          left = g.left;
          next = g.next;
          all = g.all;
          good = g.good;
          shows = shows_right (as_value make_number number) (shows_right (as_value make_plus (symbol Plus ▹ number)) g.shows);
        }

    of : (K : Value → List Token → Type 0) (ts : List Token) → AllLexical (map sort_of ts) → signed.followed Whole K ts
        → Printed signed value_unplaced value_sorts K
    of K ts all (inl h) = plain K (prints_plain.printed K ts all h)
    of K ts all (inr (inl h)) = plus K ((prints_symbol Plus).printed (λ t. number.followed Whole (λ n. K (make_plus (t, n)))) ts all h)
    of K ts all (inr (inr h)) = negative K (prints_negative.printed K ts all h)

-- for the rules that have a value
pub prints_val : Prints value value_unplaced value_sorts
unfolding value
prints_val =
    prints_value values.String value_unplaced value_sorts (λ v. refl) (λ v. refl) prints_string
    or_else prints_boolean
    or_else prints_signed
    or_else prints_value values.Name value_unplaced value_sorts (λ v. refl) (λ v. refl) prints_name

-- for the rules that have an assigned value
pub prints_assigned : Prints assigned value_unplaced assigned_sorts
unfolding assigned
prints_assigned = prints_value behind value_unplaced assigned_sorts (λ v. refl) (λ v. refl) (prints_symbol Equals then prints_val)

prints_attribute : Prints attribute attribute_unplaced attribute_sorts
unfolding attribute
prints_attribute = prints_value make_attribute attribute_unplaced attribute_sorts (λ v. refl) (λ v. refl) (prints_identifier then prints_maybe prints_assigned)

prints_bracketed : Prints bracketed (map attribute_unplaced) bracketed_sorts
unfolding bracketed
prints_bracketed =
    prints_value inner (map attribute_unplaced) bracketed_sorts (λ v. refl) (λ v. refl)
    (prints_symbol OpenBracket then prints_comma_between prints_attribute then prints_symbol CloseBracket)

-- an empty list of attributes is as none
or_none_off : (v : Option (List Attribute)) → map attribute_unplaced (unwrap_or v []) ≡ unwrap_or (option_map (map attribute_unplaced) v) []
or_none_off None = refl
or_none_off (Some xs) = refl

shows_no_attributes : Shows attributes (map attribute_unplaced) [] []
unfolding attributes
shows_no_attributes = shows_value (λ o. unwrap_or o []) (map attribute_unplaced) or_none_off (shows_none bracketed (map attribute_unplaced))

-- for the rules that have attributes
pub prints_attributes : Prints attributes (map attribute_unplaced) attributes_sorts
unfolding attributes
prints_attributes = record { printed = of }
  where
    none : (K : List Attribute → List Token → Type 0) (ts : List Token) → AllLexical (map sort_of ts) → K [] ts
        → Printed attributes (map attribute_unplaced) attributes_sorts K
    none K ts all h = record { value = []; left = ts; next = h; all = all; good = tt; shows = shows_no_attributes }

    some : (K : List Attribute → List Token → Type 0) (xs : List Attribute) (ts : List Token) → K xs ts → AllLexical (map sort_of ts)
        → AllLexical (bracketed_sorts xs) → Shows bracketed (map attribute_unplaced) xs (bracketed_sorts xs)
        → Printed attributes (map attribute_unplaced) attributes_sorts K
    some K [] ts next all good shows = none K ts all next
    some K (x ∷ xs) ts next all good shows =
        record {
          value = x ∷ xs;
          left = ts;
          next = next;
          all = all;
          good = good;
          shows = shows_value (λ o. unwrap_or o []) (map attribute_unplaced) or_none_off (shows_some shows);
        }

    put : (K : List Attribute → List Token → Type 0) → Printed bracketed (map attribute_unplaced) bracketed_sorts K
        → Printed attributes (map attribute_unplaced) attributes_sorts K
    put K g = some K g.value g.left g.next g.all g.good g.shows

    of : (K : List Attribute → List Token → Type 0) (ts : List Token) → AllLexical (map sort_of ts) → attributes.followed Whole K ts
        → Printed attributes (map attribute_unplaced) attributes_sorts K
    of K ts all (inl h) = put K (prints_bracketed.printed K ts all h)
    of K ts all (inr h) = none K ts all h
