-- Which classes identifiers have, and the others have not.
use Rattle.std.proofs.Common.{◌≡◌, ℕ, List, [], ◌∷◌, codes, Bool, true, false, refl, cond}
use Rattle.std.specs.Str.{bytes_eq}
use Rattle.mojom_ast.specs.declared.classes.TheConstants.{IDENTIFIER, NUMBER, STRING, MESSAGE_PIPE, DATA_PIPE_CONSUMER, DATA_PIPE_PRODUCER, SHARED_BUFFER, PLATFORM}
use Rattle.mojom_ast.specs.declared.token.Keyword.{Keyword}
use Rattle.mojom_ast.specs.declared.token.Keyword.TheVariants as keywords
use Rattle.mojom_ast.specs.declared.token.Symbol.{Symbol}
use Rattle.mojom_ast.specs.declared.token.Symbol.TheVariants as symbols
use Rattle.mojom_ast.specs.Classes.{keyword_class, symbol_class, identifier_class, identifiers}
use Rattle.mojom_ast.specs.Lang.{has}

-- what is to hold of the six classes of identifiers
abbrev ForEach : (ℕ → Type 0) → Type 0 → Type 0
ForEach P Then = P MESSAGE_PIPE → P DATA_PIPE_CONSUMER → P DATA_PIPE_PRODUCER → P SHARED_BUFFER → P PLATFORM → P IDENTIFIER → Then

picked : (P : ℕ → Type 0)
    → ForEach P (
    (a b c d e : Bool)
    → P (
    cond a MESSAGE_PIPE (cond b DATA_PIPE_CONSUMER (cond c DATA_PIPE_PRODUCER (cond d SHARED_BUFFER (cond e PLATFORM IDENTIFIER))))
    )
    )
picked P p q r s t u true b c d e = p
picked P p q r s t u false true c d e = q
picked P p q r s t u false false true d e = r
picked P p q r s t u false false false true e = s
picked P p q r s t u false false false false true = t
picked P p q r s t u false false false false false = u

-- what holds of the six classes of identifiers holds of each identifier's class
pub identifier_cases : (P : ℕ → Type 0) → ForEach P ((text : List ℕ) → P (identifier_class text))
unfolding identifier_class
identifier_cases P p q r s t u text =
    picked P p q r s t u
    (bytes_eq text (codes "message_pipe"))
    (bytes_eq text (codes "data_pipe_consumer"))
    (bytes_eq text (codes "data_pipe_producer"))
    (bytes_eq text (codes "shared_buffer"))
    (bytes_eq text (codes "platform"))

-- each identifier is taken where the grammar wants one
pub identifier_is : (text : List ℕ) → has identifiers (identifier_class text) ≡ true
identifier_is text = identifier_cases (λ c. has identifiers c ≡ true) refl refl refl refl refl refl text

-- no identifier is taken for a number
pub identifier_no_number : (text : List ℕ) → has (NUMBER ∷ []) (identifier_class text) ≡ false
identifier_no_number text = identifier_cases (λ c. has (NUMBER ∷ []) c ≡ false) refl refl refl refl refl refl text

-- no identifier is taken for a string
pub identifier_no_string : (text : List ℕ) → has (STRING ∷ []) (identifier_class text) ≡ false
identifier_no_string text = identifier_cases (λ c. has (STRING ∷ []) c ≡ false) refl refl refl refl refl refl text

-- no keyword is taken for an identifier
pub keyword_no_identifier : (k : Keyword) → has identifiers (keyword_class k) ≡ false
keyword_no_identifier keywords.Module = refl
keyword_no_identifier _ = refl

-- no keyword is taken for a number
pub keyword_no_number : (k : Keyword) → has (NUMBER ∷ []) (keyword_class k) ≡ false
keyword_no_number keywords.Module = refl
keyword_no_number _ = refl

-- no keyword is taken for a string
pub keyword_no_string : (k : Keyword) → has (STRING ∷ []) (keyword_class k) ≡ false
keyword_no_string keywords.Module = refl
keyword_no_string _ = refl

-- no symbol is taken for an identifier
pub symbol_no_identifier : (s : Symbol) → has identifiers (symbol_class s) ≡ false
symbol_no_identifier symbols.Semicolon = refl
symbol_no_identifier _ = refl

-- no symbol is taken for a number
pub symbol_no_number : (s : Symbol) → has (NUMBER ∷ []) (symbol_class s) ≡ false
symbol_no_number symbols.Semicolon = refl
symbol_no_number _ = refl

-- no symbol is taken for a string
pub symbol_no_string : (s : Symbol) → has (STRING ∷ []) (symbol_class s) ≡ false
symbol_no_string symbols.Semicolon = refl
symbol_no_string _ = refl
