-- The pieces of a file: blank space, comments and tokens, each by its spelling, and the longest of them.
use Rattle.std.specs.Prelude.{ℕ, ◌≡◌, ◌<◌, ◌≤◌, ◌==◌, ◌&&◌, ◌||◌, ◌⊎◌, Bool, true, false, List, [], ◌∷◌, ◌++◌, length, take, codes, is_some, nat_eq}
use Rattle.std.specs.List.{list_all, starts_with}
use Rattle.mojom_lexer.specs.Bytes.{slash, asterisk, is_blank, stays_on_line, is_run}
use Rattle.mojom_lexer.specs.Words.{is_word, symbol_of}
use Rattle.mojom_lexer.specs.Numbers.{is_number}
use Rattle.mojom_lexer.specs.Strings.{Part, IsStringOf}

-- `//` and what follows on its line
abbrev pub is_line_comment : List ℕ → Bool
is_line_comment [] = false
is_line_comment (c ∷ []) = false
is_line_comment (c ∷ d ∷ cs) = c == slash && d == slash && list_all stays_on_line cs

-- `*/` stands somewhere in the bytes
abbrev pub has_close : List ℕ → Bool
has_close [] = false
has_close (c ∷ cs) = starts_with nat_eq (c ∷ cs) (codes "*/") || has_close cs

-- `/*` and all up to the next `*/`
pub record IsBlockCommentOf (inside bytes : List ℕ) : Type 0 where
  pub is_spelled : bytes ≡ slash ∷ asterisk ∷ (inside ++ asterisk ∷ slash ∷ [])
  pub is_next : has_close (inside ++ asterisk ∷ []) ≡ false

-- what stands at a place of a file: blank space, a comment, a word, a number, a string or a symbol
pub data Kind : Type 0 where
  Blank : Kind
  Comment : Kind
  Word : Kind
  Numeral : Kind
  Quoted : Kind
  Sign : Kind

-- the bytes are of a kind
abbrev pub Is : Kind → List ℕ → Type 0
Is Blank bytes = is_run is_blank bytes ≡ true
Is Comment bytes = (is_line_comment bytes ≡ true) ⊎ ((inside : List ℕ) × IsBlockCommentOf inside bytes)
Is Word bytes = is_word bytes ≡ true
Is Numeral bytes = is_number bytes ≡ true
Is Quoted bytes = (parts : List Part) × IsStringOf parts bytes
Is Sign bytes = is_some (symbol_of bytes) ≡ true

-- the bytes are one piece, of any kind
abbrev pub IsPiece : List ℕ → Type 0
IsPiece bytes = (kind : Kind) × Is kind bytes

-- so many bytes at the front are a piece, and no more are
pub record IsLongest (bytes : List ℕ) (len : ℕ) : Type 0 where
  pub within : len ≤ length bytes
  pub is : IsPiece (take len bytes)
  pub longest : (more : ℕ) → len < more → more ≤ length bytes → IsPiece (take more bytes) → ⊥

-- no piece begins here
abbrev pub BeginsNone : List ℕ → Type 0
BeginsNone bytes = (len : ℕ) → IsPiece (take len bytes) → ⊥
