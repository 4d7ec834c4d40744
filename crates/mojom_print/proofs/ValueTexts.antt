-- The texts of names, values, attributes and types are the tokens that they show.
use Rattle.std.proofs.Common.{◌≡◌, ℕ, List, [], ◌∷◌, ◌++◌, Bool, true, false, Option, Some, None, nat_eq, refl, append_assoc, arith, codes}
use Rattle.std.specs.Prelude.{decimal}
use Rattle.std.specs.List.{list_all, flat_map, join_by}
use Rattle.std.proofs.lemmas.List.{append-nil}
use Rattle.std.proofs.lemmas.Bool.Decides.{nat_tests}
use Rattle.mojom_ast.specs.declared.token.Sort.{Sort}
use Rattle.mojom_ast.specs.declared.token.Sort.TheVariants as sorts
use Rattle.mojom_ast.specs.declared.token.Symbol.TheVariants.{Comma, Dot}
use Rattle.mojom_ast.specs.declared.names.Identifier.{Identifier}
use Rattle.mojom_ast.specs.declared.names.Number.{Number}
use Rattle.mojom_ast.specs.declared.names.Name.{Name}
use Rattle.mojom_ast.specs.declared.names.Value.{Value}
use Rattle.mojom_ast.specs.declared.names.Value.TheVariants as values
use Rattle.mojom_ast.specs.declared.attributes.Attribute.{Attribute}
use Rattle.mojom_ast.specs.declared.types.HandleSort.{HandleSort}
use Rattle.mojom_ast.specs.declared.types.PendingSort.{PendingSort}
use Rattle.mojom_ast.specs.declared.types.PendingSort.TheVariants as pendings
use Rattle.mojom_ast.specs.TypeTrees.{BaseTree, TypeTree, Named, ArrayOf, MapOf, HandleOf, PendingOf}
use Rattle.mojom_lexer.specs.Bytes.{is_letter, goes_on}
use Rattle.mojom_lexer.specs.Words.{is_word}
use Rattle.mojom_lexer.proofs.Runs.{left}
use Rattle.mojom_print.specs.Words.{name_text, sign_text, truth_text, value_text, ordinal_text, assigned_text}
use Rattle.mojom_print.specs.Attributes.{given_text, attribute_text, bracketed_text, attribute_line, attributes_before}
use Rattle.mojom_print.specs.Types.{nullable_text, count_text, handle_sort_text, sort_given_text, pending_sort_text, base_text, declared_text}
use Rattle.mojom_print.proofs.Prints.{AllLexical, option_sorts}
use Rattle.mojom_print.proofs.Lexes.{stops, Tells, none, ◌then◌, tells_sorts, fresh, closed, before, nothing, with_marks}
use Rattle.mojom_print.proofs.WordTexts.{of_identifier, identifier_tells, greater}
use Rattle.mojom_print.proofs.NumberTexts.{after_value, value_on, value_greater, number_tells, number_value_tells}
use Rattle.mojom_print.proofs.StringTexts.{string_tells}
use Rattle.mojom_print.proofs.SignTexts.{comma_blank, dot, at, minus, question, less, more, open_bracket, close_bracket, one_blank, line_end, equals_blanks, equals, true_word, false_word, remote_word, receiver_word, associated_remote_word, associated_receiver_word, handle_word, array_less, map_less, indent_tells}
use Rattle.mojom_print.proofs.Sorts.{identifier_sorts, parts_sorts, name_sorts, ordinal_sorts, value_sorts, assigned_sorts, attribute_sorts, bracketed_sorts, attributes_sorts, sort_given_sorts, pending_sort_sorts, count_sorts, nullable_sorts, base_sorts, type_sorts}

-- names
parts_tell : (ps : List Identifier) → Tells none goes_on (join_by (λ part. part.text) (codes ".") ps) (parts_sorts ps)
parts_tell [] = fresh nothing
parts_tell (x ∷ xs) =
    with_marks goes_on (codes ".") (sorts.Symbol Dot) (λ part. part.text) identifier_sorts (dot refl) (λ part. identifier_tells part.text) x xs

-- for the texts that have a name
pub name_tells : (name : Name) → Tells none goes_on (name_text name) (name_sorts name)
unfolding name_text
name_tells name = parts_tell name.parts

letter_not_greater : (c : ℕ) → is_letter c ≡ true → nat_eq 62 c ≡ false
letter_not_greater c e = grind (arith, nat_tests)

word_part : (text tail rest : List ℕ) → is_word text ≡ true → stops greater ((text ++ tail) ++ rest) ≡ true
word_part [] tail rest e = absurd (cc)
word_part (c ∷ cs) tail rest e = let n : nat_eq 62 c ≡ false = letter_not_greater c (left (is_letter c) (list_all goes_on cs) e) in rw n refl

name_part : (ps : List Identifier) → AllLexical (parts_sorts ps) → (rest : List ℕ) → stops after_value rest ≡ true
    → stops greater (join_by (λ part. part.text) (codes ".") ps ++ rest) ≡ true
name_part [] h rest s = value_greater rest s
name_part (x ∷ xs) h rest s = word_part x.text (flat_map (λ part. codes "." ++ part.text) xs) rest (of_identifier x.text h.0.bytes h.0.spelled).0

name_value_tells : (name : Name) → Tells greater after_value (name_text name) (name_sorts name)
unfolding name_text
name_value_tells name =
    record { parts = name_part name.parts; told = λ h rest more s l. (name_tells name).told h rest more (value_on rest s) l; utf8 = (name_tells name).utf8 }

-- values
truth_tells : (b : Bool) → Tells greater after_value (truth_text b) (Rattle.mojom_print.proofs.Sorts.truth_sorts b)
truth_tells true = record { parts = λ h rest s. refl; told = λ h rest more s l. true_word.told h rest more (value_on rest s) l; utf8 = true_word.utf8 }
truth_tells false = record { parts = λ h rest s. refl; told = λ h rest more s l. false_word.told h rest more (value_on rest s) l; utf8 = false_word.utf8 }

signed_tells : (negative : Bool) (magnitude : ℕ)
    → Tells greater after_value (sign_text negative ++ decimal magnitude) (Rattle.mojom_print.proofs.Sorts.sign_sorts negative ++ sorts.Number magnitude ∷ [])
signed_tells true magnitude = minus refl then fresh (number_value_tells magnitude)
signed_tells false magnitude = number_value_tells magnitude

-- for the texts that have a value
pub value_tells : (v : Value) → Tells greater after_value (value_text v) (value_sorts v)
value_tells (values.String s) = closed (string_tells s.bytes refl)
value_tells (values.Bool value span) = truth_tells value
value_tells (values.Number negative magnitude span) = signed_tells negative magnitude
value_tells (values.Name name) = name_value_tells name

-- for the texts that have an ordinal
pub ordinal_tells : (o : Option Number) → Tells goes_on goes_on (ordinal_text o) (option_sorts ordinal_sorts o)
ordinal_tells None = nothing
ordinal_tells (Some n) = at refl then number_tells n.value

-- for the texts that have an assigned value
pub assigned_tells : (o : Option Value) → Tells goes_on after_value (assigned_text o) (option_sorts assigned_sorts o)
assigned_tells None = before value_on nothing
assigned_tells (Some v) = equals_blanks refl then fresh (value_tells v)

-- attributes
given_tells : (o : Option Value) → Tells goes_on after_value (given_text o) (option_sorts assigned_sorts o)
given_tells None = before value_on nothing
given_tells (Some v) = equals refl then value_tells v

attribute_tells : (a : Attribute) → Tells none after_value (attribute_text a) (attribute_sorts a)
attribute_tells a = identifier_tells a.name.text then given_tells a.value

bracketed_tells : (x : Attribute) (xs : List Attribute) → Tells none none (bracketed_text (x ∷ xs)) (bracketed_sorts (x ∷ xs))
unfolding bracketed_text
bracketed_tells x xs =
    open_bracket refl then (with_marks after_value (codes ", ") (sorts.Symbol Comma) attribute_text attribute_sorts
    (comma_blank refl) attribute_tells x xs then close_bracket refl)

-- for the texts that have attributes on a line
pub attribute_line_tells : (depth : ℕ) (xs : List Attribute) → Tells none none (attribute_line depth xs) (attributes_sorts xs)
attribute_line_tells depth [] = nothing
attribute_line_tells depth (x ∷ xs) =
    indent_tells depth then tells_sorts (bracketed_sorts (x ∷ xs) ++ []) (bracketed_sorts (x ∷ xs)) (append-nil (bracketed_sorts (x ∷ xs)))
    (bracketed_tells x xs then line_end refl)

-- for the texts that have attributes before a parameter
pub attributes_before_tells : (xs : List Attribute) → Tells none none (attributes_before xs) (attributes_sorts xs)
attributes_before_tells [] = nothing
attributes_before_tells (x ∷ xs) =
    tells_sorts (bracketed_sorts (x ∷ xs) ++ []) (bracketed_sorts (x ∷ xs)) (append-nil (bracketed_sorts (x ∷ xs))) (bracketed_tells x xs then one_blank refl)

-- types
nullable_tells : (b : Bool) → Tells goes_on goes_on (nullable_text b) (nullable_sorts b)
nullable_tells true = closed (question refl)
nullable_tells false = nothing

count_tells : (o : Option Number) → Tells goes_on goes_on (count_text o) (option_sorts count_sorts o)
count_tells None = nothing
count_tells (Some n) = comma_blank refl then number_tells n.value

sort_given_tells : (o : Option HandleSort) → Tells goes_on goes_on (sort_given_text o) (option_sorts sort_given_sorts o)
sort_given_tells None = nothing
sort_given_tells (Some x) = closed (less refl then (identifier_tells (handle_sort_text x) then more refl))

pending_sort_tells : (x : PendingSort) → Tells none goes_on (pending_sort_text x) (pending_sort_sorts x)
pending_sort_tells pendings.Remote = remote_word
pending_sort_tells pendings.Receiver = receiver_word
pending_sort_tells pendings.AssociatedRemote = associated_remote_word
pending_sort_tells pendings.AssociatedReceiver = associated_receiver_word

base_tells : (b : BaseTree) → Tells none goes_on (base_text b) (base_sorts b)
base_tells (Named name) = name_tells name
base_tells (ArrayOf of n c) = closed (array_less then ((base_tells of then nullable_tells n) then (count_tells c then more refl)))
base_tells (MapOf k n v m) =
    closed (map_less then ((base_tells k then nullable_tells n) then (comma_blank refl then ((base_tells v then nullable_tells m) then more refl))))
base_tells (HandleOf sort) = handle_word then sort_given_tells sort
base_tells (PendingOf sort name) = closed (pending_sort_tells sort then (less refl then (name_tells name then more refl)))

declared_tells : (kind : TypeTree) (name : Identifier) → Tells none goes_on (declared_text kind name) (type_sorts kind ++ identifier_sorts name)
declared_tells kind name = (base_tells kind.base then nullable_tells kind.nullable) then (one_blank refl then identifier_tells name.text)

-- a type and a name, and what is behind them
pub declared_then : {r : ℕ → Bool} {text : List ℕ} (kind : TypeTree) (name : Identifier) (ss : List Sort) → Tells goes_on r text ss
    → Tells none r (declared_text kind name ++ text) (type_sorts kind ++ (identifier_sorts name ++ ss))
declared_then kind name ss a =
    tells_sorts ((type_sorts kind ++ identifier_sorts name) ++ ss) (type_sorts kind ++ (identifier_sorts name ++ ss))
    (append_assoc (type_sorts kind) (identifier_sorts name) ss) (declared_tells kind name then a)
