-- Strings: how they are spelled, and what they stand for.
use Rattle.std.specs.Prelude.{ℕ, ◌≡◌, ◌+◌, ◌==◌, ◌||◌, not, if◌then◌else◌, Bool, true, List, [], ◌∷◌, ◌++◌, length, Option, Some, None, Result, Ok, Err, codes}
use Rattle.std.specs.List.{list_all, flat_map}
use Rattle.mojom_lexer.specs.Bytes.{byte_of, tab, line_feed, quote, backslash}

-- a part of a string: a byte that stands for itself, or a backslash and a byte
pub data Part : Type 0 where
  Literal : ℕ → Part
  Escape : ℕ → Part

-- the bytes of a part
abbrev pub spelled : Part → List ℕ
spelled (Literal c) = c ∷ []
spelled (Escape c) = backslash ∷ c ∷ []

-- a quote, a backslash and LF do not stand for themselves; a backslash does not stand before LF
abbrev pub is_part : Part → Bool
is_part (Literal c) = not (c == quote || c == backslash || c == line_feed)
is_part (Escape c) = not (c == line_feed)

-- a quote, the parts, and a quote
abbrev pub quoted : List Part → List ℕ
quoted parts = quote ∷ (flat_map spelled parts ++ quote ∷ [])

-- the bytes are a string of these parts
pub record IsStringOf (parts : List Part) (bytes : List ℕ) : Type 0 where
  pub are_parts : list_all is_part parts ≡ true
  pub is_spelled : bytes ≡ quoted parts

-- the four escapes: `\"`, `\\`, `\n` and `\t`
abbrev pub escaped : ℕ → Option ℕ
escaped c =
    if c == quote then Some quote
    else (if c == backslash then Some backslash
    else (if c == byte_of (codes "n") then Some line_feed
    else (if c == byte_of (codes "t") then Some tab
    else None)))

-- the byte that a part stands for, if it stands for any
abbrev pub meaning : Part → Option ℕ
meaning (Literal c) = Some c
meaning (Escape c) = escaped c

-- a part's byte, and then the text of the others; the first part that stands for nothing is at `at`, before theirs
abbrev pub then_text : ℕ → Option ℕ → Result (List ℕ) ℕ → Result (List ℕ) ℕ
then_text at None text = Err at
then_text at (Some c) (Ok cs) = Ok (c ∷ cs)
then_text at (Some c) (Err bad) = Err bad

-- what the parts stand for, or the place of the first that stands for nothing; `at` is the first part's place
abbrev pub text_of : ℕ → List Part → Result (List ℕ) ℕ
text_of at [] = Ok []
text_of at (part ∷ parts) = then_text at (meaning part) (text_of (at + length (spelled part)) parts)
