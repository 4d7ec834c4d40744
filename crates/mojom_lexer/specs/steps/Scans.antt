-- Reading from left to right: how long what stands at the front is. Laws in proofs/ tie these to the spelling.
use Rattle.std.specs.Prelude.{ℕ, suc, ◌+◌, ◌==◌, ◌&&◌, not, if◌then◌else◌, Bool, true, false, List, [], ◌∷◌, ◌++◌, take, drop, Option, Some, None, Result, Ok, Err, codes, nat_eq, is_some, ◌≡◌}
use Rattle.std.specs.List.{starts_with}
use Rattle.std.specs.Option.{option_map}
use Rattle.mojom_lexer.specs.Bytes.{line_feed, quote, backslash, slash, is_blank, is_digit, is_hex_digit, is_letter}
use Rattle.mojom_lexer.specs.Numbers.{is_hexadecimal}
use Rattle.mojom_ast.specs.declared.token.Sort.{Sort}
use Rattle.mojom_lexer.specs.declared.error.LexError.{LexError}
use Rattle.mojom_lexer.specs.declared.error.LexError.TheVariants.{BadChar, Memory}
use Rattle.mojom_lexer.specs.declared.pieces.Piece.{Piece}
use Rattle.mojom_lexer.specs.Words.{single_symbol}
use Rattle.mojom_lexer.specs.Strings.{Part, text_of}
use Rattle.mojom_lexer.specs.Pieces.{Kind, IsLongest}
use Rattle.mojom_lexer.specs.Pieces.Kind.{Blank, Comment, Word, Numeral, Quoted, Sign}
use Rattle.mojom_lexer.specs.Lexed.{IsPassedOver, SpellsSort}
use Rattle.mojom_lexer.specs.Strings.Part.{Literal, Escape}

-- the kind of piece that a byte begins
abbrev pub kind_of : ℕ → Option Kind
kind_of c =
    if is_blank c then Some Blank
    else (if is_letter c then Some Word
    else (if is_digit c then Some Numeral
    else (if c == quote then Some Quoted
    else (if c == slash then Some Comment
    else (if is_some (single_symbol c) then Some Sign
    else None)))))

-- the kind of piece that begins at the front
abbrev pub kind_at : List ℕ → Option Kind
kind_at [] = None
kind_at (c ∷ cs) = kind_of c

-- a symbol begins at the front, or a byte that begins nothing
abbrev pub BeginsSign : List ℕ → Type 0
BeginsSign [] = ⊥
BeginsSign (c ∷ cs) = kind_of c ≡ (if is_some (single_symbol c) then Some Sign else None)

-- how many at the front pass
abbrev pub run_len : (ℕ → Bool) → List ℕ → ℕ
run_len p [] = 0
run_len p (c ∷ cs) = if p c then suc (run_len p cs) else 0

-- how long the number at the front is
abbrev pub number_len : List ℕ → ℕ
number_len bytes = if is_hexadecimal (take 3 bytes) then 2 + run_len is_hex_digit (drop 2 bytes) else run_len is_digit bytes

-- how many bytes stand before the next `*/`
abbrev pub before_close : List ℕ → Option ℕ
before_close [] = None
before_close (c ∷ cs) = if starts_with nat_eq (c ∷ cs) (codes "*/") then Some 0 else option_map suc (before_close cs)

-- how many bytes stand before the closing quote; `after_backslash` tells of the byte before these
abbrev pub before_quote : Bool → List ℕ → Option ℕ
before_quote after_backslash [] = None
before_quote after_backslash (c ∷ cs) =
    if c == line_feed then None
    else (if c == quote && not after_backslash then Some 0
    else option_map suc (before_quote (c == backslash && not after_backslash) cs))

-- the parts that bytes are; `after_backslash` tells of the byte before these
abbrev pub parts_of : Bool → List ℕ → List Part
parts_of after_backslash [] = []
parts_of after_backslash (c ∷ cs) =
    if after_backslash then Escape c ∷ parts_of false cs
    else (if c == backslash then parts_of true cs
    else Literal c ∷ parts_of false cs)

-- what was read before, and what is still read
abbrev pub with_text : List ℕ → Result (List ℕ) ℕ → Result (List ℕ) ℕ
with_text front (Ok text) = Ok (front ++ text)
with_text front (Err at) = Err at

-- the first escape that stands for nothing begins so many bytes behind the quote, which is at `at`; or memory ran out
abbrev pub IsBadEscape : ℕ → List Part → LexError → Type 0
IsBadEscape at parts (BadChar place) = (behind : ℕ) × (text_of 1 parts ≡ Err behind) × (place ≡ at + behind)
IsBadEscape at parts Memory = Unit {0}
IsBadEscape at parts _ = ⊥

-- what a piece is: a token, or nothing
abbrev pub Means : Option Sort → List ℕ → Type 0
Means None bytes = IsPassedOver bytes
Means (Some sort) bytes = SpellsSort sort bytes

-- the piece is at the front
pub record Stands (piece : Piece) (bytes : List ℕ) : Type 0 where
  pub longest : IsLongest bytes piece.len
  pub means : Means piece.sort (take piece.len bytes)
