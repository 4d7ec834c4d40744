-- The sort of a token whose class has one sort alone.
use Rattle.std.proofs.Common.{◌≡◌, ℕ, List, [], ◌∷◌, Option, Some, None, Bool, true, false, cond, inl, inr, ◌⊎◌, refl, sym, ◌∙◌, ap, codes}
use Rattle.std.specs.Prelude.{nat_eq}
use Rattle.std.specs.Str.{bytes_eq}
use Rattle.std.proofs.lemmas.Slice.Eq.{bytes_eq-Decides}
use Rattle.mojom_ast.specs.declared.token.Keyword.{Keyword}
use Rattle.mojom_ast.specs.declared.token.Keyword.TheVariants as keywords
use Rattle.mojom_ast.specs.declared.token.Symbol.{Symbol}
use Rattle.mojom_ast.specs.declared.token.Symbol.TheVariants as symbols
use Rattle.mojom_ast.specs.declared.token.Sort.{Sort}
use Rattle.mojom_ast.specs.declared.token.Sort.TheVariants as sorts
use Rattle.mojom_ast.specs.Classes.{keyword_class, symbol_class, identifier_class, class_of, identifiers}
use Rattle.mojom_ast.specs.Lang.{has}
use Rattle.mojom_ast.specs.Trees.{text_in, number_in, bytes_in}
use Rattle.mojom_ast.proofs.ClassFacts.{identifier_no_number, identifier_no_string, keyword_no_identifier, keyword_no_number, keyword_no_string, symbol_no_identifier, symbol_no_number, symbol_no_string}
use Rattle.mojom_lexer.proofs.FirstBytes.{eqb_same}

-- the classes of one sort
fixed : List (ℕ × Sort)
fixed =
    (3, sorts.Keyword keywords.Module) ∷ (4, sorts.Keyword keywords.Import) ∷ (5, sorts.Keyword keywords.Struct) ∷ (6, sorts.Keyword keywords.Union)
    ∷ (7, sorts.Keyword keywords.Enum) ∷ (8, sorts.Keyword keywords.Interface) ∷ (9, sorts.Keyword keywords.Const) ∷ (10, sorts.Keyword keywords.True)
    ∷ (11, sorts.Keyword keywords.False) ∷ (12, sorts.Keyword keywords.Array) ∷ (13, sorts.Keyword keywords.Map) ∷ (14, sorts.Keyword keywords.Handle)
    ∷ (15, sorts.Keyword keywords.PendingRemote) ∷ (16, sorts.Keyword keywords.PendingReceiver)
    ∷ (17, sorts.Keyword keywords.PendingAssociatedRemote) ∷ (18, sorts.Keyword keywords.PendingAssociatedReceiver)
    ∷ (19, sorts.Symbol symbols.Semicolon) ∷ (20, sorts.Symbol symbols.Comma) ∷ (21, sorts.Symbol symbols.Dot) ∷ (22, sorts.Symbol symbols.OpenParen)
    ∷ (23, sorts.Symbol symbols.CloseParen) ∷ (24, sorts.Symbol symbols.OpenBracket) ∷ (25, sorts.Symbol symbols.CloseBracket)
    ∷ (26, sorts.Symbol symbols.OpenBrace) ∷ (27, sorts.Symbol symbols.CloseBrace) ∷ (28, sorts.Symbol symbols.Less) ∷ (29, sorts.Symbol symbols.Greater)
    ∷ (30, sorts.Symbol symbols.Equals) ∷ (31, sorts.Symbol symbols.Arrow) ∷ (32, sorts.Symbol symbols.Question) ∷ (33, sorts.Symbol symbols.At)
    ∷ (34, sorts.Symbol symbols.Plus) ∷ (35, sorts.Symbol symbols.Minus)
    ∷ (36, sorts.Identifier (codes "message_pipe")) ∷ (37, sorts.Identifier (codes "data_pipe_consumer")) ∷ (38, sorts.Identifier (codes "data_pipe_producer"))
    ∷ (39, sorts.Identifier (codes "shared_buffer")) ∷ (40, sorts.Identifier (codes "platform")) ∷ []

sort_in : List (ℕ × Sort) → ℕ → Option Sort
sort_in [] c = None
sort_in (entry ∷ entries) c = cond (nat_eq c entry.0) (Some entry.1) (sort_in entries c)

-- the sort that all tokens of a class have
pub sort_at : ℕ → Option Sort
unfolding fixed sort_in
sort_at c = sort_in fixed c

-- no other sort is of the class
abbrev pub Agrees : Sort → Option Sort → Type 0
Agrees s o = (o ≡ Some s) ⊎ (o ≡ None)

keyword_agrees : (k : Keyword) → sort_at (keyword_class k) ≡ Some (sorts.Keyword k)
unfolding sort_at sort_in fixed
keyword_agrees keywords.Module = refl
keyword_agrees _ = refl

symbol_agrees : (s : Symbol) → sort_at (symbol_class s) ≡ Some (sorts.Symbol s)
unfolding sort_at sort_in fixed
symbol_agrees symbols.Semicolon = refl
symbol_agrees _ = refl

text_is : (text word : List ℕ) → bytes_eq text word ≡ true → ◌≡◌ {A = Option Sort} (Some (sorts.Identifier word)) (Some (sorts.Identifier text))
text_is text word e = ap (λ (l : List ℕ). Some (sorts.Identifier l)) (sym ((bytes_eq-Decides text word).0 e))

identifier_agrees : (text : List ℕ) → Agrees (sorts.Identifier text) (sort_at (identifier_class text))
unfolding identifier_class sort_at sort_in fixed
identifier_agrees text =
    of (bytes_eq text (codes "message_pipe")) (bytes_eq text (codes "data_pipe_consumer")) (bytes_eq text (codes "data_pipe_producer"))
    (bytes_eq text (codes "shared_buffer")) (bytes_eq text (codes "platform")) refl refl refl refl refl
  where
    of : (a b c d e : Bool) → bytes_eq text (codes "message_pipe") ≡ a → bytes_eq text (codes "data_pipe_consumer") ≡ b
        → bytes_eq text (codes "data_pipe_producer") ≡ c → bytes_eq text (codes "shared_buffer") ≡ d → bytes_eq text (codes "platform") ≡ e
        → Agrees (sorts.Identifier text) (sort_at (cond a 36 (cond b 37 (cond c 38 (cond d 39 (cond e 40 0))))))
    of true b c d e ea eb ec ed ee = inl (text_is text (codes "message_pipe") ea)
    of false true c d e ea eb ec ed ee = inl (text_is text (codes "data_pipe_consumer") eb)
    of false false true d e ea eb ec ed ee = inl (text_is text (codes "data_pipe_producer") ec)
    of false false false true e ea eb ec ed ee = inl (text_is text (codes "shared_buffer") ed)
    of false false false false true ea eb ec ed ee = inl (text_is text (codes "platform") ee)
    of false false false false false ea eb ec ed ee = inr refl

agrees : (s : Sort) → Agrees s (sort_at (class_of s))
unfolding sort_at sort_in fixed
agrees (sorts.Identifier text) = identifier_agrees text
agrees (sorts.Number n) = inr refl
agrees (sorts.String bytes) = inr refl
agrees (sorts.Keyword k) = inl (keyword_agrees k)
agrees (sorts.Symbol s) = inl (symbol_agrees s)

-- for rules of one class: a token of it
pub has_one : (c d : ℕ) → has (c ∷ []) d ≡ true → d ≡ c
has_one c d h = of (nat_eq d c) refl h
  where
    of : (v : Bool) → nat_eq d c ≡ v → cond v true false ≡ true → d ≡ c
    of true e g = eqb_same d c e
    of false e g = absurd (cc)

-- a token of such a class has the sort
pub fixed_sort : (c : ℕ) (s t : Sort) → sort_at c ≡ Some t → has (c ∷ []) (class_of s) ≡ true → s ≡ t
fixed_sort c s t at h = of (agrees s)
  where
    there : sort_at (class_of s) ≡ Some t
    there = ap sort_at (has_one c (class_of s) h) ∙ at

    of : Agrees s (sort_at (class_of s)) → s ≡ t
    of (inl e) = let f : Some s ≡ Some t = sym e ∙ there in cc
    of (inr e) = let f : ◌≡◌ {A = Option Sort} None (Some t) = sym e ∙ there in absurd (cc)

-- for `prints_keyword`
pub keyword_sort : (k : Keyword) (s : Sort) → has (keyword_class k ∷ []) (class_of s) ≡ true → s ≡ sorts.Keyword k
keyword_sort k s h = fixed_sort (keyword_class k) s (sorts.Keyword k) (keyword_agrees k) h

-- for `prints_symbol`
pub symbol_sort : (k : Symbol) (s : Sort) → has (symbol_class k ∷ []) (class_of s) ≡ true → s ≡ sorts.Symbol k
symbol_sort k s h = fixed_sort (symbol_class k) s (sorts.Symbol k) (symbol_agrees k) h

-- the words that are sorts of handles
pub message_pipe : sort_at 36 ≡ Some (sorts.Identifier (codes "message_pipe"))
unfolding sort_at sort_in fixed
message_pipe = refl

-- for the sorts of handles
pub data_pipe_consumer : sort_at 37 ≡ Some (sorts.Identifier (codes "data_pipe_consumer"))
unfolding sort_at sort_in fixed
data_pipe_consumer = refl

-- for the sorts of handles
pub data_pipe_producer : sort_at 38 ≡ Some (sorts.Identifier (codes "data_pipe_producer"))
unfolding sort_at sort_in fixed
data_pipe_producer = refl

-- for the sorts of handles
pub shared_buffer : sort_at 39 ≡ Some (sorts.Identifier (codes "shared_buffer"))
unfolding sort_at sort_in fixed
shared_buffer = refl

-- for the sorts of handles
pub platform : sort_at 40 ≡ Some (sorts.Identifier (codes "platform"))
unfolding sort_at sort_in fixed
platform = refl

-- identifiers, numbers and strings
pub identifier_sort : (s : Sort) → has identifiers (class_of s) ≡ true → s ≡ sorts.Identifier (text_in s)
identifier_sort (sorts.Identifier text) h = refl
identifier_sort (sorts.Number n) h = absurd (cc)
identifier_sort (sorts.String bytes) h = absurd (cc)
identifier_sort (sorts.Keyword k) h = let e = keyword_no_identifier k in absurd (cc)
identifier_sort (sorts.Symbol k) h = let e = symbol_no_identifier k in absurd (cc)

-- for `prints_number`
pub number_sort : (s : Sort) → has (1 ∷ []) (class_of s) ≡ true → s ≡ sorts.Number (number_in s)
number_sort (sorts.Identifier text) h = let e = identifier_no_number text in absurd (cc)
number_sort (sorts.Number n) h = refl
number_sort (sorts.String bytes) h = absurd (cc)
number_sort (sorts.Keyword k) h = let e = keyword_no_number k in absurd (cc)
number_sort (sorts.Symbol k) h = let e = symbol_no_number k in absurd (cc)

-- for `prints_string`
pub string_sort : (s : Sort) → has (2 ∷ []) (class_of s) ≡ true → s ≡ sorts.String (bytes_in s)
string_sort (sorts.Identifier text) h = let e = identifier_no_string text in absurd (cc)
string_sort (sorts.Number n) h = absurd (cc)
string_sort (sorts.String bytes) h = refl
string_sort (sorts.Keyword k) h = let e = keyword_no_string k in absurd (cc)
string_sort (sorts.Symbol k) h = let e = symbol_no_string k in absurd (cc)
