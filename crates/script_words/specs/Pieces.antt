-- The lines of a text, and the words of a line.
use Rattle.std.specs.Prelude.{ℕ, Bool, false, ◌==◌, ◌++◌, List, [], ◌∷◌, if◌then◌else◌, length, map}

-- what ends a line
abbrev pub line_feed : ℕ
line_feed = 10

-- what parts words
abbrev pub blank : ℕ
blank = 32

-- `"`, on both sides of a string
abbrev pub quote : ℕ
quote = 34

-- `\`, before what is escaped in a string
abbrev pub backslash : ℕ
backslash = 92

-- bytes before the first part
abbrev pub onto : List ℕ → List (List ℕ) → List (List ℕ)
onto bytes [] = bytes ∷ []
onto bytes (part ∷ parts) = (bytes ++ part) ∷ parts

-- the parts between the separators
abbrev pub pieces : ℕ → List ℕ → List (List ℕ)
pieces c [] = [] ∷ []
pieces c (b ∷ bytes) = if b == c then [] ∷ pieces c bytes else onto (b ∷ []) (pieces c bytes)

-- without a last part that is empty
abbrev pub without_empty_last : List (List ℕ) → List (List ℕ)
without_empty_last [] = []
without_empty_last (p ∷ []) = if length p == 0 then [] else p ∷ []
without_empty_last (p ∷ q ∷ ps) = p ∷ without_empty_last (q ∷ ps)

-- the lines of a text: each ends in LF, which the last may lack, and the empty text has none
abbrev pub text_lines : List ℕ → List (List ℕ)
text_lines bytes = without_empty_last (pieces line_feed bytes)

-- where in a line a byte stands: in no string, in one, or behind a backslash in one
pub data Place : Type 0 where
  Outside : Place
  Inside : Place
  Escaped : Place

-- where the next byte stands
abbrev pub behind : Place → ℕ → Place
behind Outside b = if b == quote then Inside else Outside
behind Inside b = if b == quote then Outside else (if b == backslash then Escaped else Inside)
behind Escaped b = Inside

-- whether the byte is a blank that stands in no string
abbrev pub parts_words : Place → ℕ → Bool
parts_words Outside b = b == blank
parts_words Inside b = false
parts_words Escaped b = false

-- the parts between the blanks that stand in no string
abbrev pub words_at : Place → List ℕ → List (List ℕ)
words_at p [] = [] ∷ []
words_at p (b ∷ bytes) = if parts_words p b then [] ∷ words_at (behind p b) bytes else onto (b ∷ []) (words_at (behind p b) bytes)

-- the words of a line: a string that is open at its end runs to there
abbrev pub line_words : List ℕ → List (List ℕ)
line_words line = words_at Outside line

-- the words of each line of a text
abbrev pub text_words : List ℕ → List (List (List ℕ))
text_words bytes = map line_words (text_lines bytes)
