-- The tokens of a file, or the refusal of it.
use Rattle.std.specs.Prelude.{ℕ, ◌≡◌, ◌<◌, ◌≤◌, ◌+◌, ◌^◌, ◌⊎◌, Bool, true, false, List, [], ◌∷◌, ◌++◌, length, take, drop, codes, Some, None, Ok, Err, IsUtf8, nat_eq, All, AllPairs}
use Rattle.std.specs.List.{starts_with}
use Rattle.std.specs.Str.Lossy.{utf8_valid_len}
use Rattle.mojom_ast.specs.declared.token.Sort.{Sort}
use Rattle.mojom_ast.specs.declared.token.Sort.TheVariants.{Identifier, Keyword, Number, String, Symbol}
use Rattle.mojom_ast.specs.declared.token.Token.{Token}
use Rattle.mojom_lexer.specs.declared.error.LexError.{LexError}
use Rattle.mojom_lexer.specs.declared.error.LexError.TheVariants.{BadUtf8, BadChar, OpenComment, OpenString, LeadingZero, NumberTooLong}
use Rattle.mojom_lexer.specs.Words.{is_word, keyword_of, symbol_of}
use Rattle.mojom_lexer.specs.Numbers.{is_number, has_leading_zero, number_value}
use Rattle.mojom_lexer.specs.Strings.{Part, IsStringOf, text_of}
use Rattle.mojom_lexer.specs.Pieces.{Is, IsLongest, BeginsNone}
use Rattle.mojom_lexer.specs.Pieces.Kind.{Blank, Comment}

-- blank space and comments are passed over
abbrev pub IsPassedOver : List ℕ → Type 0
IsPassedOver bytes = Is Blank bytes ⊎ Is Comment bytes

-- a number that may stand in a file
pub record IsNumber (value : ℕ) (bytes : List ℕ) : Type 0 where
  pub number : is_number bytes ≡ true
  pub leads : has_leading_zero bytes ≡ false
  pub worth : number_value bytes ≡ value
  pub fits : value < 2 ^ 64

-- what a token is, by its bytes
abbrev pub SpellsSort : Sort → List ℕ → Type 0
SpellsSort (Identifier text) bytes = (is_word bytes ≡ true) × (keyword_of bytes ≡ None) × (text ≡ bytes)
SpellsSort (Keyword keyword) bytes = (is_word bytes ≡ true) × (keyword_of bytes ≡ Some keyword)
SpellsSort (Number value) bytes = IsNumber value bytes
SpellsSort (String text) bytes = (parts : List Part) × IsStringOf parts bytes × (text_of 1 parts ≡ Ok text)
SpellsSort (Symbol symbol) bytes = symbol_of bytes ≡ Some symbol

-- from the file's start, piece by piece, each the longest at its place, to a place: the tokens among them
pub data Reaches (bytes : List ℕ) : ℕ → List Token → Type 0 where
  starts : Reaches bytes 0 []
  passes : (at len : ℕ) (tokens : List Token)
      → Reaches bytes at tokens
      → IsLongest (drop at bytes) len
      → IsPassedOver (take len (drop at bytes))
      → Reaches bytes (at + len) tokens
  takes : (at len : ℕ) (tokens : List Token) (sort : Sort)
      → Reaches bytes at tokens
      → IsLongest (drop at bytes) len
      → SpellsSort sort (take len (drop at bytes))
      → Reaches bytes (at + len) (tokens ++ record { sort = sort; span = record { start = at; len = len } } ∷ [])

-- the bytes are these tokens
pub record AreTokens (bytes : List ℕ) (tokens : List Token) : Type 0 where
  pub utf8 : IsUtf8 bytes
  pub reaches : Reaches bytes (length bytes) tokens

-- the longest piece at the front is such a one
pub record HasFront (What : List ℕ → Type 0) (bytes : List ℕ) : Type 0 where
  pub len : ℕ
  pub is_longest : IsLongest bytes len
  pub is : What (take len bytes)

-- a string whose first bad escape begins so many bytes behind its first
abbrev pub HasBadEscape : ℕ → List ℕ → Type 0
HasBadEscape behind bytes = (parts : List Part) × IsStringOf parts bytes × (text_of 1 parts ≡ Err behind)

-- a number with a 0 before another digit
abbrev pub HasLeadingZero : List ℕ → Type 0
HasLeadingZero bytes = (is_number bytes ≡ true) × (has_leading_zero bytes ≡ true)

-- a number of 2 ^ 64 or more
abbrev pub IsTooLong : List ℕ → Type 0
IsTooLong bytes = (is_number bytes ≡ true) × (has_leading_zero bytes ≡ false) × (2 ^ 64 ≤ number_value bytes)

-- `/*` stands at the front
abbrev pub begins_comment : List ℕ → Bool
begins_comment bytes = starts_with nat_eq bytes (codes "/*")

-- a quote stands at the front
abbrev pub begins_string : List ℕ → Bool
begins_string bytes = starts_with nat_eq bytes (codes "\"")

-- a byte that begins no piece
pub record IsBadChar (bytes : List ℕ) : Type 0 where
  pub some : 0 < length bytes
  pub none : BeginsNone bytes
  pub no_comment : begins_comment bytes ≡ false
  pub no_string : begins_string bytes ≡ false

-- why the bytes from a place on can't go on: no piece begins, or the longest is no token
abbrev pub Refuses : ℕ → List ℕ → LexError → Type 0
Refuses at bytes (BadChar place) =
    (IsBadChar bytes × (place ≡ at)) ⊎ ((behind : ℕ) × HasFront (HasBadEscape behind) bytes × (place ≡ at + behind))
Refuses at bytes (OpenComment place) = (begins_comment bytes ≡ true) × BeginsNone bytes × (place ≡ at)
Refuses at bytes (OpenString place) = (begins_string bytes ≡ true) × BeginsNone bytes × (place ≡ at)
Refuses at bytes (LeadingZero place) = HasFront HasLeadingZero bytes × (place ≡ at)
Refuses at bytes (NumberTooLong place) = HasFront IsTooLong bytes × (place ≡ at)
Refuses at bytes _ = ⊥

-- behind good pieces stands one that can't go on
pub record StopsAt (bytes : List ℕ) (error : LexError) : Type 0 where
  pub utf8 : IsUtf8 bytes
  pub at : ℕ
  pub tokens : List Token
  pub reaches : Reaches bytes at tokens
  pub refuses : Refuses at (drop at bytes) error

-- the refusal of the bytes: first that they aren't UTF-8, then the first by place
abbrev pub IsLexicalRefusal : List ℕ → LexError → Type 0
IsLexicalRefusal bytes (BadUtf8 place) = ¬ IsUtf8 bytes × (place ≡ utf8_valid_len bytes)
IsLexicalRefusal bytes error = StopsAt bytes error

-- bytes have just one list of tokens or just one refusal, and never both
pub record OneReading (bytes : List ℕ) : Type 0 where
  pub some : ((tokens : List Token) × AreTokens bytes tokens) ⊎ ((error : LexError) × IsLexicalRefusal bytes error)
  pub one_list : (tokens others : List Token) → AreTokens bytes tokens → AreTokens bytes others → tokens ≡ others
  pub one_refusal : (error other : LexError) → IsLexicalRefusal bytes error → IsLexicalRefusal bytes other → error ≡ other
  pub never_both : (tokens : List Token) (error : LexError) → AreTokens bytes tokens → IsLexicalRefusal bytes error → ⊥

-- tokens stand in order and apart, within the file, and each has a byte or more
pub record InOrder (bytes : List ℕ) (tokens : List Token) : Type 0 where
  pub some : All (λ token. 0 < token.span.len) tokens
  pub apart : AllPairs (λ token next. token.span.start + token.span.len ≤ next.span.start) tokens
  pub within : All (λ token. token.span.start + token.span.len ≤ length bytes) tokens
