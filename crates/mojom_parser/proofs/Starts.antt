-- Whether the next token begins a rule: the tests of its parts, one or another.
use Rattle.std.proofs.Common.{◌≡◌, ℕ, List, [], ◌∷◌, ◌++◌, Bool, true, false, refl, sym, ap, ◌∙◌}
use Rattle.std.specs.Prelude.{◌||◌, nat_eq, if◌then◌else◌}
use Rattle.mj_base.specs.declared.limits.TheConstants.{MAX_NESTED_TYPES}
use Rattle.mojom_ast.specs.declared.classes.TheConstants.{OPEN_BRACKET, MODULE, IMPORT, STRUCT, UNION, ENUM, INTERFACE, CONST, ARRAY, MAP, HANDLE, PENDING_REMOTE, PENDING_RECEIVER, PENDING_ASSOCIATED_REMOTE, PENDING_ASSOCIATED_RECEIVER}
use Rattle.mojom_ast.specs.declared.token.Token.{Token}
use Rattle.mojom_ast.specs.TypeTrees.{TypeTree}
use Rattle.mojom_ast.specs.Classes.{class, identifiers}
use Rattle.mojom_ast.specs.Lang.{Lang, has, front_in}
use Rattle.mojom_ast.specs.Grammar.{identifier, bracketed, attributes, array, map_of, handle, pending_sort, pending, type_starts, const_of, enumerator, enum_of, field, struct_item, struct_member, struct_of, union_field, union_of, parameter, method, interface_item, interface_member, interface_of, definition_item, definition}
use Rattle.grammar_laws.specs.steps.Factored.{statement_starts, file_starts}

has_append : (xs ys : List ℕ) (c : ℕ) → has (xs ++ ys) c ≡ (has xs c || has ys c)
has_append [] ys c = refl
has_append (x ∷ xs) ys c = either (nat_eq c x) (has (xs ++ ys) c) (has xs c) (has ys c) (has_append xs ys c)
  where
    either : (here more one two : Bool) → more ≡ (one || two) → (if here then true else more) ≡ ((if here then true else one) || two)
    either true more one two e = refl
    either false more one two e = e

-- these classes or those
both : (xs ys : List ℕ) (ts : List Token) → front_in (xs ++ ys) ts ≡ (front_in xs ts || front_in ys ts)
both xs ys [] = refl
both xs ys (t ∷ ts) = has_append xs ys (class t)

-- the next token is of this class
abbrev is : List Token → ℕ → Bool
is ts x = front_in (x ∷ []) ts

-- the next token is of one of these classes, each tested alone, or of the last ones
abbrev one_of : List ℕ → List ℕ → List Token → Bool
one_of [] last ts = front_in last ts
one_of (x ∷ xs) last ts = is ts x || one_of xs last ts

by_parts : (xs last : List ℕ) (ts : List Token) → front_in (xs ++ last) ts ≡ one_of xs last ts
by_parts [] last ts = refl
by_parts (x ∷ xs) last ts = both (x ∷ []) (xs ++ last) ts ∙ ap (λ (b : Bool). is ts x || b) (by_parts xs last ts)

pub pending_begins : (ts : List Token) → front_in pending.starts ts ≡
    (is ts PENDING_REMOTE || (is ts PENDING_RECEIVER || (is ts PENDING_ASSOCIATED_REMOTE || is ts PENDING_ASSOCIATED_RECEIVER)))
unfolding pending pending_sort
pending_begins ts = by_parts (PENDING_REMOTE ∷ PENDING_RECEIVER ∷ PENDING_ASSOCIATED_REMOTE ∷ []) (PENDING_ASSOCIATED_RECEIVER ∷ []) ts

pub type_begins : (ts : List Token) → front_in type_starts ts ≡
    (is ts ARRAY || (is ts MAP || (is ts HANDLE || (front_in pending.starts ts || front_in identifiers ts))))
unfolding pending pending_sort
type_begins ts = by_parts (ARRAY ∷ MAP ∷ HANDLE ∷ []) (pending.starts ++ identifiers) ts
    ∙ ap (λ (b : Bool). is ts ARRAY || (is ts MAP || (is ts HANDLE || b))) (both pending.starts identifiers ts)

pub enumerator_begins : (ts : List Token) → front_in enumerator.starts ts ≡ (is ts OPEN_BRACKET || front_in identifiers ts)
unfolding enumerator attributes bracketed identifier
enumerator_begins ts = both (OPEN_BRACKET ∷ []) identifiers ts

pub struct_member_begins : (ts : List Token) → front_in (struct_member MAX_NESTED_TYPES).starts ts ≡
    (is ts OPEN_BRACKET || (is ts CONST || (is ts ENUM || front_in type_starts ts)))
unfolding struct_member attributes bracketed struct_item const_of enum_of field
struct_member_begins ts = by_parts (OPEN_BRACKET ∷ CONST ∷ ENUM ∷ []) type_starts ts

pub union_field_begins : (ts : List Token) → front_in (union_field MAX_NESTED_TYPES).starts ts ≡ (is ts OPEN_BRACKET || front_in type_starts ts)
unfolding union_field attributes bracketed
union_field_begins ts = both (OPEN_BRACKET ∷ []) type_starts ts

pub parameter_begins : (ts : List Token) → front_in (parameter MAX_NESTED_TYPES).starts ts ≡ (is ts OPEN_BRACKET || front_in type_starts ts)
unfolding parameter attributes bracketed
parameter_begins ts = both (OPEN_BRACKET ∷ []) type_starts ts

pub interface_member_begins : (ts : List Token) → front_in (interface_member MAX_NESTED_TYPES).starts ts ≡
    (is ts OPEN_BRACKET || (is ts CONST || (is ts ENUM || front_in identifiers ts)))
unfolding interface_member attributes bracketed interface_item const_of enum_of method identifier
interface_member_begins ts = by_parts (OPEN_BRACKET ∷ CONST ∷ ENUM ∷ []) identifiers ts

pub item_begins : (ts : List Token) → front_in (definition_item MAX_NESTED_TYPES).starts ts ≡
    (is ts STRUCT || (is ts UNION || (is ts ENUM || (is ts INTERFACE || is ts CONST))))
unfolding definition_item struct_of union_of enum_of interface_of const_of
item_begins ts = by_parts (STRUCT ∷ UNION ∷ ENUM ∷ INTERFACE ∷ []) (CONST ∷ []) ts

pub definition_begins : (ts : List Token) → front_in (definition MAX_NESTED_TYPES).starts ts ≡
    (is ts OPEN_BRACKET || front_in (definition_item MAX_NESTED_TYPES).starts ts)
unfolding definition attributes bracketed
definition_begins ts = both (OPEN_BRACKET ∷ []) (definition_item MAX_NESTED_TYPES).starts ts

pub statement_begins : (ts : List Token) → front_in statement_starts ts ≡ (front_in (definition MAX_NESTED_TYPES).starts ts || is ts IMPORT)
unfolding definition attributes bracketed definition_item struct_of union_of enum_of interface_of const_of
statement_begins ts = both (definition MAX_NESTED_TYPES).starts (IMPORT ∷ []) ts

-- what begins a file, besides `[` and `module`
abbrev behind : List ℕ
behind = STRUCT ∷ UNION ∷ ENUM ∷ INTERFACE ∷ CONST ∷ IMPORT ∷ []

pub file_begins : (ts : List Token) → front_in file_starts ts ≡ (front_in statement_starts ts || is ts MODULE)
file_begins ts =
    both (OPEN_BRACKET ∷ []) (MODULE ∷ behind) ts ∙ ap (λ (b : Bool). is ts OPEN_BRACKET || b) (both (MODULE ∷ []) behind ts)
    ∙ last (is ts OPEN_BRACKET) (is ts MODULE) (front_in behind ts)
    ∙ ap (λ (b : Bool). b || is ts MODULE) (sym (both (OPEN_BRACKET ∷ []) behind ts))
  where
    last : (a b c : Bool) → (a || (b || c)) ≡ ((a || c) || b)
    last true b c = refl
    last false true true = refl
    last false true false = refl
    last false false true = refl
    last false false false = refl

pub struct_starts : (struct_of MAX_NESTED_TYPES).starts ≡ STRUCT ∷ []
unfolding struct_of
struct_starts = refl

pub union_starts : (union_of MAX_NESTED_TYPES).starts ≡ UNION ∷ []
unfolding union_of
union_starts = refl

pub enum_starts : enum_of.starts ≡ ENUM ∷ []
unfolding enum_of
enum_starts = refl

pub interface_starts : (interface_of MAX_NESTED_TYPES).starts ≡ INTERFACE ∷ []
unfolding interface_of
interface_starts = refl

pub ruleset items = (struct_starts, union_starts, enum_starts, interface_starts)

pub item_not_null : (definition_item MAX_NESTED_TYPES).null ≡ false
unfolding definition_item struct_of union_of enum_of interface_of const_of
item_not_null = refl

pub array_starts : (inside : Lang TypeTree) → (array inside).starts ≡ ARRAY ∷ []
unfolding array
array_starts inside = refl

pub map_starts : (inside : Lang TypeTree) → (map_of inside).starts ≡ MAP ∷ []
unfolding map_of
map_starts inside = refl

pub handle_starts : handle.starts ≡ HANDLE ∷ []
unfolding handle
handle_starts = refl

pub ruleset bases = (array_starts, map_starts, handle_starts)
